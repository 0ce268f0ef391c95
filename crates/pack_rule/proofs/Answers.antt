-- The answer, over the definitions: what the early judgement lets through, that its count is at most the number allowed, and demand 3:
-- accepted, the packing has the fewest; refused 11, there is none. What `pack` promises follows from its answer and its two buffers.
use mathlib.Core.Path.{◌≡◌, refl, sym, ap, ◌∙◌}
use mathlib.Core.List.{List}
use mathlib.Core.Bool.{Bool, true, false, cond, ◌&&◌}
use mathlib.Core.Logic.{◌⊎◌, inl, inr, ⊎_elim}
use Prim.Native.Nat.{ℕ, ◌≤◌, ◌<◌, zero-le}
use native.Mathlib.Omega.{arith}
use lib.Dec.{eqb, leb}
use lib.ListN.{length}
use borrow.Author.Tests.{eq-eqb, ne_eqb, eqb-true, le-leb, lt-leb, leb-true, leb-false}
use Rattle.lists.proofs.Search.{not-both}
use Rattle.lists.proofs.Cond.{if-true, if-false, left-true, right-true}
use Rattle.lists.specs.Bytes.{Bytes}
use Rattle.reply.specs.declared.Reply.{Reply}
use Rattle.reply.specs.declared.Reply.TheVariants.{Done, BufferLength, TooManyTiles, PackingBounds}
use Rattle.reply.specs.Reply.{is_done, reply_number}
use Rattle.pack_classes.specs.Turned.{classes}
use Rattle.std.specs.Prelude.{Result, Ok, Err}
use Rattle.pack_rule.specs.Sheet.{Draws}
use Rattle.pack_rule.specs.Greedy.{tile_count, packed_map, packed_defs}
use Rattle.pack_rule.specs.Answer.{judged, answered, pack_answer, NoneDraws, Fewest, Demanded}
use Rattle.reply.specs.Answered.{reply_of, value_of}
use Rattle.pack_rule.specs.Packs.{Packs}
use Rattle.pack_rule.proofs.Banked.{setting}
use Rattle.pack_rule.proofs.Lower.{direct, lower}
use Rattle.pack_rule.proofs.Greedy.{counted}
use Rattle.pack_rule.proofs.Packed.{fewest-here}

-- what the early judgement lets through
pub record Good (pic map defs allowed offset : ℕ) : Type 0 where
  pub pic-length : pic ≡ 40960
  pub map-length : map ≡ 2560
  pub defs-length : defs ≡ 8192
  pub allowed-small : allowed ≤ 256
  pub offset-small : offset ≤ 15

module _ (pic map defs allowed offset : ℕ) where
  pub good : reply_number (judged pic map defs allowed offset) ≡ 0 → Good pic map defs allowed offset
  unfolding judged
  good e = go (eqb pic 40960 && eqb map 2560 && eqb defs 8192) refl (leb allowed 256 && leb offset 15) refl e
    where
      go : (a : Bool) → (eqb pic 40960 && eqb map 2560 && eqb defs 8192) ≡ a → (b : Bool) → (leb allowed 256 && leb offset 15) ≡ b
          → reply_number (cond a (cond b Done PackingBounds) BufferLength) ≡ 0 → Good pic map defs allowed offset
      go false p b q e = absurd (omega (arith, e))
      go true p false q e = absurd (omega (arith, e))
      go true p true q e =
          let l = left-true (eqb pic 40960 && eqb map 2560) (eqb defs 8192) p in
          record {
            pic-length = eqb-true _ _ (left-true (eqb pic 40960) (eqb map 2560) l);
            map-length = eqb-true _ _ (right-true (eqb pic 40960) (eqb map 2560) l);
            defs-length = eqb-true _ _ (right-true (eqb pic 40960 && eqb map 2560) (eqb defs 8192) p);
            allowed-small = leb-true _ _ (left-true (leb allowed 256) (leb offset 15) q);
            offset-small = leb-true _ _ (right-true (leb allowed 256) (leb offset 15) q);
          }

  good-done : Good pic map defs allowed offset → judged pic map defs allowed offset ≡ Done
  unfolding judged
  good-done g =
      rw (eq-eqb _ _ g.pic-length, eq-eqb _ _ g.map-length, eq-eqb _ _ g.defs-length, le-leb _ _ g.allowed-small, le-leb _ _ g.offset-small) refl

  never-many : reply_number (judged pic map defs allowed offset) ≡ 11 → ⊥
  unfolding judged
  never-many e = go (eqb pic 40960 && eqb map 2560 && eqb defs 8192) (leb allowed 256 && leb offset 15) e
    where
      go : (a b : Bool) → reply_number (cond a (cond b Done PackingBounds) BufferLength) ≡ 11 → ⊥
      go false b e = omega (arith, e)
      go true false e = omega (arith, e)
      go true true e = omega (arith, e)

module _ (pic : List ℕ) (allowed offset map defs : ℕ) where
  pub answer-early : (r : Reply) → r ≡ judged (length pic) map defs allowed offset → (reply_number r ≡ 0 → ⊥)
      → Err r ≡ pack_answer pic allowed offset map defs
  unfolding pack_answer
  answer-early r e n = rw (← e) (sym (if-false (is_done r) (answered (tile_count pic) allowed) (Err r) (ne_eqb _ _ n)))

  pub answer-judged : reply_number (judged (length pic) map defs allowed offset) ≡ 0 → answered (tile_count pic) allowed ≡ pack_answer pic allowed offset map defs
  unfolding pack_answer
  answer-judged z = sym (if-true _ _ _ (eq-eqb _ _ z))

pub answered-done : (n allowed : ℕ) → n ≤ allowed → answered n allowed ≡ Ok n
unfolding answered
answered-done n allowed l = if-true _ _ _ (le-leb n allowed l)

pub answered-many : (n allowed : ℕ) → allowed < n → answered n allowed ≡ Err TooManyTiles
unfolding answered
answered-many n allowed l = if-false _ _ _ (lt-leb n allowed l)

-- no map that draws names fewer than the picture has classes
none-draws : (pic : List ℕ) (allowed offset : ℕ) → allowed < tile_count pic → NoneDraws pic allowed offset
unfolding classes
none-draws pic allowed offset l map defs d h = omega (arith, l, h, counted pic 1280, lower pic offset map defs (direct pic offset map defs d))

-- what has the fewest draws, in the setting that there is
drawn-by : (pic : List ℕ) (offset n : ℕ) (map defs : List ℕ) → Fewest pic offset n map defs → Draws pic offset map defs
drawn-by pic offset n map defs f =
    let s = f.setting in
    record {
      bank = s.bank;
      attribute = 0;
      map_base = s.map_base;
      def_base = s.def_base;
      set = s.set;
      draws = f.draws s.bank 0 s.map_base s.def_base s.set;
    }

module _ (pic : List ℕ) (allowed offset map defs : ℕ) where
  pub count_small : value_of (pack_answer pic allowed offset map defs) ≤ allowed
  unfolding pack_answer answered
  count_small = go (is_done (judged (length pic) map defs allowed offset)) (leb (tile_count pic) allowed) refl
    where
      go : (b d : Bool) → leb (tile_count pic) allowed ≡ d
          → value_of (cond {A = Result ℕ Reply} b (cond d (Ok (tile_count pic)) (Err TooManyTiles)) (Err (judged (length pic) map defs allowed offset))) ≤ allowed
      go true true e = leb-true (tile_count pic) allowed e
      go true false e = zero-le
      go false d e = zero-le

  -- demand 3 of the answer
  pub demanded : Bytes pic → Demanded pic allowed offset (packed_map pic offset) (packed_defs pic) (pack_answer pic allowed offset map defs)
  unfolding pack_answer answered
  demanded bytes = go (is_done (judged (length pic) map defs allowed offset)) refl (leb (tile_count pic) allowed) refl
    where
      go : (b : Bool) → is_done (judged (length pic) map defs allowed offset) ≡ b → (d : Bool) → leb (tile_count pic) allowed ≡ d
          → Demanded pic allowed offset (packed_map pic offset) (packed_defs pic)
          (cond b (cond d (Ok (tile_count pic)) (Err TooManyTiles)) (Err (judged (length pic) map defs allowed offset)))
      go false e d f =
          record {
            accepted = λ z. absurd (not-both (ap is_done z) e);
            refused = λ z. absurd (never-many (length pic) map defs allowed offset (ap reply_number z));
          }
      go true e true f =
          let g = good (length pic) map defs allowed offset (eqb-true _ _ e) in
          let l = leb-true (tile_count pic) allowed f in
          record {
            accepted = λ z. fewest-here pic offset (omega (arith, l, g.allowed-small)) g.offset-small bytes;
            refused = λ z. absurd (omega (arith, ap reply_number z));
          }
      go true e false f =
          record {
            accepted = λ z. absurd (omega (arith, ap reply_number z));
            refused = λ z. none-draws pic allowed offset (leb-false (tile_count pic) allowed f);
          }

  -- an answer that is not refused early is one of two
  pub decided : Good (length pic) map defs allowed offset
      → (reply_of (pack_answer pic allowed offset map defs) ≡ Done) ⊎ (reply_of (pack_answer pic allowed offset map defs) ≡ TooManyTiles)
  decided g = go (leb (tile_count pic) allowed) refl
    where
      judge : answered (tile_count pic) allowed ≡ pack_answer pic allowed offset map defs
      judge = answer-judged pic allowed offset map defs (ap reply_number (good-done (length pic) map defs allowed offset g))

      go : (b : Bool) → leb (tile_count pic) allowed ≡ b
          → (reply_of (pack_answer pic allowed offset map defs) ≡ Done) ⊎ (reply_of (pack_answer pic allowed offset map defs) ≡ TooManyTiles)
      go true e = inl (ap reply_of (sym judge ∙ answered-done (tile_count pic) allowed (leb-true _ _ e)))
      go false e = inr (ap reply_of (sym judge ∙ answered-many (tile_count pic) allowed (leb-false _ _ e)))

-- what is answered and left goes with the definitions: all that a packing promises
pub packs : (pic : List ℕ) (allowed offset : ℕ) (map defs map' defs' : List ℕ) (a : Result ℕ Reply) → Bytes pic
    → a ≡ pack_answer pic allowed offset (length map) (length defs) → map' ≡ cond (is_done (reply_of a)) (packed_map pic offset) map
    → defs' ≡ cond (is_done (reply_of a)) (packed_defs pic) defs → Packs pic allowed offset map defs map' defs' a
packs pic allowed offset map defs map' defs' a bytes e em ed =
    let d = demanded pic allowed offset (length map) (length defs) bytes in
    let r = ap reply_of e in
    record {
      answer-is = e;
      map_is = em;
      defs-is = ed;
      demand = record {
        accepted = λ z.
            let m : map' ≡ packed_map pic offset = em ∙ if-true (is_done (reply_of a)) (packed_map pic offset) map (ap is_done z) in
            let n : defs' ≡ packed_defs pic = ed ∙ if-true (is_done (reply_of a)) (packed_defs pic) defs (ap is_done z) in
            let k : value_of a ≡ value_of (pack_answer pic allowed offset (length map) (length defs)) = ap value_of e in
            rw (m, n, k) (d.accepted (sym r ∙ z));
        refused = λ z. d.refused (sym r ∙ z);
      };
      only = λ hp hm hd ha ho q.
          ⊎_elim
          (λ z. let f = d.accepted z in
          absurd (q (packed_map pic offset) (packed_defs pic) (drawn-by pic offset _ _ _ f)
          (omega (arith, f.counts, count_small pic allowed offset (length map) (length defs)))))
          (λ z. r ∙ z)
          (decided pic allowed offset (length map) (length defs)
          (record { pic-length = hp; map-length = hm; defs-length = hd; allowed-small = ha; offset-small = ho }));
      settings = setting;
    }
