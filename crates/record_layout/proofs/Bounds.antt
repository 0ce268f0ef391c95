-- No place of a record is bad exactly where its flags are 0 or 1 and the state in it is lawful: the bounds that a lawful state
-- keeps are those of the layout's parts, one by one.
use mathlib.Core.Path.{◌≡◌, refl, sym, ap, ◌∙◌}
use mathlib.Core.List.{List, [], ◌∷◌, ◌++◌}
use mathlib.Core.Bool.{Bool, true, false, ◌&&◌}
use Prim.Native.Nat.{ℕ, zero, suc, ◌+◌, ◌*◌, ◌-◌, ◌<◌}
use native.Mathlib.Omega.{arith}
use lib.ListN.{length, drop, get_or}
use lib.Dec.{eqb}
use Rattle.lists.specs.Tab.{tab}
use Rattle.lists.proofs.Cond.{left-true, right-true, and_assoc}
use Rattle.lists.proofs.Chain.{chain, chain-apart, chain-join}
use Rattle.lists.proofs.Search.{below}
use Rattle.register_bounds.specs.Bounds.{offset_yfits, half_fits, colour_fits}
use Rattle.state.specs.Lawful.{all_colours, lawful_state}
use Rattle.state.proofs.Kept.{Kept, lawful-kept, kept-lawful}
use Rattle.record_layout.specs.Fields.{pair, field_size, field_at}
use Rattle.record_layout.specs.Parts.{sizes}
use Rattle.record_layout.specs.declared.Version.{Version}
use Rattle.record_layout.specs.declared.Version.TheVariants.{Version1, Version2}
use Rattle.record_layout.specs.Layout.{is_flag, before_scrolls, scrolls, after_scrolls, layout}
use Rattle.record_layout.specs.Places.{parts_place, lores_xplace, lores_yplace, ula_xplace, ula_yplace, ula_clip_place, held_place, plus_on_place}
use Rattle.record_layout.specs.Record.{state_as, record_length, sound}
use Rattle.record_layout.proofs.From.{state_from}
use Rattle.record_layout.proofs.Whole.{whole_length}
use Rattle.record_layout.proofs.Parts.{Good, place_of, later, good-apart, good-join}
use Rattle.record_layout.proofs.Walk.{sound-good, good-sound}

-- the colours of a row, one by one
colours-append : (xs ys : List ℕ) → all_colours (xs ++ ys) ≡ (all_colours xs && all_colours ys)
colours-append [] ys = refl
colours-append (x ∷ xs) ys =
    ap (λ (b : Bool). colour_fits x && b) (colours-append xs ys) ∙ and_assoc (colour_fits x) (all_colours xs) (all_colours ys)

colours-each : (f : ℕ → ℕ) (n : ℕ) → all_colours (tab f n) ≡ true → (i : ℕ) → i < n → colour_fits (f i) ≡ true
unfolding tab
colours-each f zero e i l = absurd (omega (arith, l))
colours-each f (suc n) e i l =
    let h = sym (colours-append (tab f n) (f n ∷ [])) ∙ e in
    let a : all_colours (tab f n) ≡ true = left-true (all_colours (tab f n)) (colour_fits (f n) && true) h in
    let r : (colour_fits (f n) && true) ≡ true = right-true (all_colours (tab f n)) (colour_fits (f n) && true) h in
    below (λ i. colour_fits (f i) ≡ true) n (colours-each f n a) (left-true (colour_fits (f n)) true r) i l

colours-all : (f : ℕ → ℕ) (n : ℕ) → ((i : ℕ) → i < n → colour_fits (f i) ≡ true) → all_colours (tab f n) ≡ true
unfolding tab
colours-all f zero h = refl
colours-all f (suc n) h =
    let a : all_colours (tab f n) ≡ true = colours-all f n (λ i l. h i (omega (arith, l))) in
    let b : colour_fits (f n) ≡ true = h n (omega arith) in
    colours-append (tab f n) (f n ∷ []) ∙ chain-join (all_colours (tab f n)) ((colour_fits (f n) && true) ∷ []) a (cc, tt)

-- one fact and those after it
infixr 2 ◌▸◌
◌▸◌ : {A B : Type 0} → A → B → A × B
a ▸ b = (a, b)

-- the layout's bounds are those of the flags and of the state: with $26 and $27 at two places, and the parts after them from a third on
module _ (b : List ℕ) (x y at : ℕ) where
  abbrev place : ℕ → ℕ
  place n = place_of n after_scrolls at

  abbrev byte_at : ℕ → ℕ
  byte_at k = get_or b k 0

  abbrev colour_at : ℕ → ℕ → ℕ
  colour_at n i = field_at pair b (place n + field_size pair * i)

  -- the byte before the held byte
  held-before : half_fits (eqb (byte_at (place 5 - 1)) 1) (byte_at (place 5)) ≡ half_fits (eqb (byte_at (place 4)) 1) (byte_at (place 5))
  held-before = let e : place 5 - 1 ≡ place 4 = omega arith in ap (λ (k : ℕ). half_fits (eqb (byte_at k) 1) (byte_at (place 5))) e

  module _ (f : Good before_scrolls b parts_place) (fy : offset_yfits (byte_at y) ≡ true) (r : Good after_scrolls b at) where
    before : (n : ℕ) → Good (drop n before_scrolls) b (place_of n before_scrolls parts_place)
    before n = later n before_scrolls b parts_place f

    after : (n : ℕ) → Good (drop n after_scrolls) b (place n)
    after n = later n after_scrolls b at r

    good-kept : Kept (state_from b x y at)
    good-kept = record {
      ulay = fy;
      loresy = (before 17).0;
      ulacontrol = (before 8).0;
      mask = (before 5).0;
      choice = (before 3).0;
      half = sym held-before ∙ (after 5).0;
      tiletransparent = (before 7).0;
      tilecontrol = (before 9).0;
      xhigh = (before 11).0;
      map = (before 14).0;
      definitions = (before 15).0;
      ulaturn = (after 2).0;
      tileturn = (after 3).0;
      border = (after 6).0;
      select = (after 8).0;
      ulafirst = colours-all (colour_at 12) 256 (after 12).0;
      ulasecond = colours-all (colour_at 13) 256 (after 13).0;
      tilefirst = colours-all (colour_at 14) 256 (after 14).0;
      tilesecond = colours-all (colour_at 15) 256 (after 15).0;
    }

  module _ (k : Kept (state_from b x y at)) where
    kept-front : Good before_scrolls b parts_place
    kept-front =
        refl ▸ refl ▸ refl ▸ k.choice ▸ refl ▸ k.mask ▸ refl ▸ k.tiletransparent ▸ k.ulacontrol ▸ k.tilecontrol ▸ refl ▸ k.xhigh ▸ refl ▸ refl
        ▸ k.map ▸ k.definitions ▸ refl ▸ k.loresy ▸ tt

    kept-rest : is_flag (byte_at (place 4)) ≡ true → is_flag (byte_at (place 9)) ≡ true → Good after_scrolls b at
    kept-rest h p =
        let free : (n : ℕ) (i : ℕ) → i < n → true ≡ true = λ n i l. refl in
        let first = colours-each (colour_at 12) 256 k.ulafirst in
        let second = colours-each (colour_at 13) 256 k.ulasecond in
        let third = colours-each (colour_at 14) 256 k.tilefirst in
        let fourth = colours-each (colour_at 15) 256 k.tilesecond in
        free 4 ▸ free 4 ▸ k.ulaturn ▸ k.tileturn ▸ h ▸ (held-before ∙ k.half) ▸ k.border ▸ refl ▸ k.select ▸ p ▸ refl ▸ free 64
        ▸ first ▸ second ▸ third ▸ fourth ▸ tt

pub same : (x y : Bool) → (x ≡ true → y ≡ true) → (y ≡ true → x ≡ true) → x ≡ y
same true y f g = sym (f refl)
same false true f g = g refl
same false false f g = refl

-- the fields keep their bounds: the flags are 0 or 1, and the bounds of the state are kept
abbrev Held : Version → List ℕ → Type 0
Held v b = (is_flag (get_or b (held_place v) 0) ≡ true) × (is_flag (get_or b (plus_on_place v) 0) ≡ true) × Kept (state_as v b)

good-held : (v : Version) (b : List ℕ) → Good (layout v) b parts_place → Held v b
unfolding state_as
good-held Version1 b g =
    let p = good-apart before_scrolls after_scrolls b parts_place g in
    let at = ula_clip_place Version1 in
    ((later 4 after_scrolls b at p.1).0, (later 9 after_scrolls b at p.1).0, good-kept b lores_xplace lores_yplace at p.0 (later 17 before_scrolls b parts_place p.0).0 p.1)
good-held Version2 b g =
    let p = good-apart before_scrolls (scrolls Version2 ++ after_scrolls) b parts_place g in
    let q = good-apart (scrolls Version2) after_scrolls b (ula_xplace Version2) p.1 in
    let at = ula_clip_place Version2 in
    ((later 4 after_scrolls b at q.1).0, (later 9 after_scrolls b at q.1).0, good-kept b (ula_xplace Version2) (ula_yplace Version2) at p.0 q.0.1.0 q.1)

held-good : (v : Version) (b : List ℕ) → Held v b → Good (layout v) b parts_place
unfolding state_as
held-good Version1 b k =
    let at = ula_clip_place Version1 in
    good-join before_scrolls after_scrolls b parts_place (kept-front b lores_xplace lores_yplace at k.2) (kept-rest b lores_xplace lores_yplace at k.2 k.0 k.1)
held-good Version2 b k =
    let x = ula_xplace Version2 in
    let y = ula_yplace Version2 in
    let at = ula_clip_place Version2 in
    good-join before_scrolls (scrolls Version2 ++ after_scrolls) b parts_place (kept-front b x y at k.2)
    (refl ▸ k.2.ulay ▸ kept-rest b x y at k.2 k.0 k.1)

module _ (v : Version) (b : List ℕ) where
  abbrev tests : List Bool
  tests = is_flag (get_or b (plus_on_place v) 0) ∷ lawful_state (state_as v b) ∷ []

  whole : length b ≡ record_length v → length b ≡ parts_place + sizes (layout v)
  whole l = omega (arith, l, whole_length v)

  -- no place is bad: the flags are 0 or 1, and the state is lawful
  pub sound-lawful : length b ≡ record_length v → sound v b ≡ (is_flag (get_or b (held_place v) 0) && is_flag (get_or b (plus_on_place v) 0) && lawful_state (state_as v b))
  sound-lawful l =
      same (sound v b) (chain (is_flag (get_or b (held_place v) 0)) tests)
      (λ e.
      let t = good-held v b (sound-good v b (whole l) e) in
      chain-join (is_flag (get_or b (held_place v) 0)) tests t.0 (t.1, (kept-lawful (state_as v b) t.2, tt)))
      (λ e.
      let r = chain-apart (is_flag (get_or b (held_place v) 0)) tests e in
      good-sound v b (whole l) (held-good v b (r.0, r.1.0, lawful-kept (state_as v b) r.1.1.0)))
