-- The record is made of what is placed part after part: each part starts where the run before it ends.
use mathlib.Core.Path.{◌≡◌, refl, sym, ap, ◌∙◌}
use mathlib.Core.List.{List, [], ◌++◌, append_assoc, append-nil}
use Prim.Native.Nat.{ℕ, ◌+◌}
use native.Mathlib.Omega.{arith}
use lib.ListN.{length, take, drop, length-append, take-append-drop}
use lib.Seq.{take_at, drop_at, length-take-le}
use Rattle.lists.specs.Placed.{placed}
use Rattle.lists.proofs.Placed.{placed-after, placed-whole}
use Rattle.state.specs.declared.State.{State}
use Rattle.state.specs.Typed.{Typed}
use Rattle.record_layout.specs.Fields.{byte, pair, row_bytes}
use Rattle.record_layout.specs.Parts.{bytes_of}
use Rattle.record_layout.specs.declared.Version.TheVariants.{Version1}
use Rattle.record_layout.specs.Version.{added, current}
use Rattle.record_layout.specs.Layout.{after_scrolls}
use Rattle.record_layout.specs.Places.{ula_clip_place, tile_clip_place, ula_turn_place, plus_place, ula_first_place, ula_second_place, tile_first_place, tile_second_place}
use Rattle.record_layout.specs.Record.{record_of, record_length}
use Rattle.record_layout.proofs.Runs.{Run, run_on}
use Rattle.record_layout.proofs.Fields.{row-byte, row-length}
use Rattle.record_layout.proofs.Claims.{length_of_record}

regroup : (h u t n p a b c d : List ℕ) → h ++ (u ++ (t ++ (n ++ (p ++ (a ++ (b ++ (c ++ (d ++ []))))))))
    ≡ (((h ++ u) ++ t) ++ n) ++ ((((p ++ a) ++ b) ++ c) ++ d)
regroup h u t n p a b c d = simp (append_assoc, append-nil)

module _ (s : State) (z : Typed s) where
  abbrev after_clips : List ℕ
  after_clips = bytes_of (take 9 (drop 2 after_scrolls)) s

  abbrev registers : List ℕ
  registers = ((take (ula_clip_place current) (record_of s) ++ s.ulaclip) ++ s.tileclip) ++ after_clips

  abbrev tables : List ℕ
  tables = (((s.plus ++ row_bytes pair s.ulafirst) ++ row_bytes pair s.ulasecond) ++ row_bytes pair s.tilefirst) ++ row_bytes pair s.tilesecond

  both : record_of s ≡ registers ++ tables
  unfolding record_of
  both =
      regroup (take (ula_clip_place current) (record_of s)) (row_bytes byte s.ulaclip) (row_bytes byte s.tileclip) after_clips (row_bytes byte s.plus)
      (row_bytes pair s.ulafirst) (row_bytes pair s.ulasecond) (row_bytes pair s.tilefirst) (row_bytes pair s.tilesecond)
      ∙ rw (row-byte s.ulaclip, row-byte s.tileclip, row-byte s.plus)

  long : length (record_of s) ≡ record_length current
  unfolding record_of
  long = (length_of_record current).1 s z

  first-length : length (take (ula_clip_place current) (record_of s)) ≡ ula_clip_place current
  first-length = length-take-le (ula_clip_place current) (record_of s) (omega (arith, long))

  registers-length : length registers ≡ plus_place current
  registers-length = simp length-append (omega (arith, first-length, z.ulaclip.long, z.tileclip.long))

  registers-are : take (plus_place current) (record_of s) ≡ registers
  registers-are = ap (take (plus_place current)) both ∙ take_at registers tables (plus_place current) registers-length

  tables-are : drop (plus_place current) (record_of s) ≡ tables
  tables-are = ap (drop (plus_place current)) both ∙ drop_at registers tables (plus_place current) registers-length

  -- `m` is what the version adds, as the code has it
  module _ (m : ℕ) (em : m ≡ added current) where
    pub registers-made : (first last b d1 d2 d3 d4 : List ℕ) → length b ≡ record_length current
        → first ≡ take (ula_clip_place current) (record_of s) → last ≡ after_clips
        → d1 ≡ placed b 0 first → d2 ≡ placed d1 (ula_clip_place Version1 + m) s.ulaclip → d3 ≡ placed d2 (tile_clip_place Version1 + m) s.tileclip → d4 ≡ placed d3 (ula_turn_place Version1 + m) last
        → d4 ≡ placed b 0 (take (plus_place current) (record_of s))
    registers-made first last b d1 d2 d3 d4 l ef el e1 e2 e3 e4 =
        let r1 : Run b 0 d1 (take (ula_clip_place current) (record_of s)) (ula_clip_place current) = (e1 ∙ ap (placed b 0) ef, first-length) in
        let r2 = run_on b d1 d2 _ s.ulaclip 0 (ula_clip_place current) (ula_clip_place Version1 + m) 4 r1 e2 (omega (arith, em)) z.ulaclip.long (omega (arith, em, l)) in
        let r3 = run_on b d2 d3 _ s.tileclip 0 (tile_clip_place current) (tile_clip_place Version1 + m) 4 r2 e3 (omega (arith, em)) z.tileclip.long (omega (arith, em, l)) in
        let r4 = run_on b d3 d4 _ after_clips 0 (ula_turn_place current) (ula_turn_place Version1 + m) 9 r3 (e4 ∙ ap (placed d3 (ula_turn_place Version1 + m)) el) (omega (arith, em)) refl (omega (arith, em, l)) in
        r4.0 ∙ ap (placed b 0) (sym registers-are)

    pub tables-made : (b d1 d2 d3 d4 d5 : List ℕ) → length b ≡ record_length current
        → d1 ≡ placed b (plus_place Version1 + m) s.plus → d2 ≡ placed d1 (ula_first_place Version1 + m) (row_bytes pair s.ulafirst) → d3 ≡ placed d2 (ula_second_place Version1 + m) (row_bytes pair s.ulasecond)
        → d4 ≡ placed d3 (tile_first_place Version1 + m) (row_bytes pair s.tilefirst) → d5 ≡ placed d4 (tile_second_place Version1 + m) (row_bytes pair s.tilesecond)
        → d5 ≡ placed b (plus_place current) (drop (plus_place current) (record_of s))
    tables-made b d1 d2 d3 d4 d5 l e1 e2 e3 e4 e5 =
        let c : (xs : List ℕ) → length xs ≡ 256 → length (row_bytes pair xs) ≡ 512 = λ xs n. omega (arith, row-length pair xs, n) in
        let start : plus_place Version1 + m ≡ plus_place current = omega (arith, em) in
        let r1 : Run b (plus_place current) d1 s.plus 64 = (e1 ∙ ap (λ (k : ℕ). placed b k s.plus) start, z.plus.long) in
        let r2 = run_on b d1 d2 _ _ (plus_place current) 64 (ula_first_place Version1 + m) 512 r1 e2 (omega (arith, em)) (c s.ulafirst z.ulafirst.long) (omega (arith, em, l)) in
        let r3 = run_on b d2 d3 _ _ (plus_place current) 576 (ula_second_place Version1 + m) 512 r2 e3 (omega (arith, em)) (c s.ulasecond z.ulasecond.long) (omega (arith, em, l)) in
        let r4 = run_on b d3 d4 _ _ (plus_place current) 1088 (tile_first_place Version1 + m) 512 r3 e4 (omega (arith, em)) (c s.tilefirst z.tilefirst.long) (omega (arith, em, l)) in
        let r5 = run_on b d4 d5 _ _ (plus_place current) 1600 (tile_second_place Version1 + m) 512 r4 e5 (omega (arith, em)) (c s.tilesecond z.tilesecond.long) (omega (arith, em, l)) in
        r5.0 ∙ ap (placed b (plus_place current)) (sym tables-are)

  pub record-made : (b d1 d2 : List ℕ) → length b ≡ record_length current → d1 ≡ placed b 0 (take (plus_place current) (record_of s))
      → d2 ≡ placed d1 (plus_place current) (drop (plus_place current) (record_of s)) → d2 ≡ record_of s
  record-made b d1 d2 l e1 e2 =
      let h : length (take (plus_place current) (record_of s)) ≡ plus_place current = ap length registers-are ∙ registers-length in
      e2 ∙ ap (λ (d : List ℕ). placed d (plus_place current) (drop (plus_place current) (record_of s))) e1
      ∙ placed-after b (take (plus_place current) (record_of s)) (drop (plus_place current) (record_of s)) 0 (plus_place current) (omega (arith, h)) (omega (arith, l))
      ∙ ap (placed b 0) (take-append-drop (plus_place current) (record_of s)) ∙ placed-whole b (record_of s) (long ∙ sym l)
