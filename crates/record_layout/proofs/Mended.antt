-- A record whose first bad byte is mended. The walk over the parts passes the parts before that byte as it did, since none of their fields reads
-- it, then the field that starts there, and goes on behind it.
use mathlib.Core.Path.{◌≡◌, refl, sym, ap, ◌∙◌}
use mathlib.Core.List.{List, [], ◌∷◌}
use mathlib.Core.Bool.{Bool, true, false, not, ◌&&◌}
use Prim.Native.Nat.{ℕ, ◌+◌, ◌*◌, ◌-◌, ◌≤◌, ◌<◌}
use native.Mathlib.Omega.{arith}
use lib.ListN.{length, get_or, set, length-set}
use lib.Seq.{get_or-set_other}
use lib.Dec.{eqb, ltb}
use borrow.Author.Tests.{eq-eqb, eqb-true, eqb-false, ltb-true, ltb-false}
use Rattle.lists.proofs.Cond.{if-true, if-false}
use Rattle.lists.proofs.Search.{least-found, least-same, some-not, not-both}
use Rattle.reply.specs.declared.Reply.TheVariants.{BadField}
use Rattle.state.specs.declared.State.{State}
use Rattle.record_layout.specs.Fields.{Width, byte, pair, field_size, field_at}
use Rattle.record_layout.specs.Parts.{Part, one, row, sizes, first_bad_field, first_bad_row, first_bad_in, bad_part, bad}
use Rattle.record_layout.specs.declared.Version.{Version}
use Rattle.record_layout.specs.Layout.{layout}
use Rattle.record_layout.specs.Places.{parts_place}
use Rattle.record_layout.specs.Record.{counted, versioned, first_bad, read_as}
use Rattle.record_layout.proofs.Parts.{not_left, not_right, unkept}
use Rattle.record_layout.proofs.Walk.{bad-below, first_found, step-more}
use Rattle.record_layout.proofs.Told.{bad-field}

-- the walk ends at the parts' place or behind it
first-from : (ps : List Part) (b : List ℕ) (at next : ℕ) → at + sizes ps ≤ next → at ≤ first_bad_in ps b at next
first-from ps b at next l = go (ltb (first_bad_in ps b at next) at) refl
  where
    go : (t : Bool) → ltb (first_bad_in ps b at next) at ≡ t → at ≤ first_bad_in ps b at next
    go true e =
        let m = ltb-true (first_bad_in ps b at next) at e in
        absurd (not-both ((first_found ps b at next l).here (omega (arith, m, l))) (bad-below ps b at (first_bad_in ps b at next) m))
    go false e = omega (arith, ltb-false (first_bad_in ps b at next) at e)

step-on : (w : Width) (i n : ℕ) → i < n → field_size w * i + field_size w ≤ field_size w * n
step-on byte i n l = omega (arith, l)
step-on pair i n l = omega (arith, l)

module _ (b : List ℕ) (k x : ℕ) where
  abbrev c : List ℕ
  c = set b k x

  -- a byte and a field before the mended byte
  byte-same : (j : ℕ) → j < k → get_or c j 0 ≡ get_or b j 0
  byte-same j l = get_or-set_other b k j x 0 (λ e. omega (arith, l, e))

  field-same : (w : Width) (j : ℕ) → j + field_size w ≤ k → field_at w c j ≡ field_at w b j
  field-same byte j l = byte-same j (omega (arith, l))
  field-same pair j l = rw (byte-same j (omega (arith, l)), byte-same (j + 1) (omega (arith, l)))

  -- a part of one byte: passed as before where the bad byte is behind it; where it is the bad byte, passed now
  module _ (bound : ℕ → ℕ → Bool) (field : State → ℕ) (ps : List Part) (at next : ℕ) (l : at + 1 + sizes ps ≤ next) (m : k < next) where
    abbrev held : List ℕ → Bool
    held d = bound (get_or d (at - 1) 0) (get_or d at 0)

    one_later : first_bad_in (one bound field ∷ ps) b at next ≡ k → bad (one bound field ∷ ps) c at k ≡ false
        → (first_bad_in ps b (at + 1) next ≡ k → k < first_bad_in ps c (at + 1) next)
        → k < first_bad_in (one bound field ∷ ps) c at next
    one_later e z go_on = go (held b) refl
      where
        behind : held c ≡ true → k < first_bad_in ps c (at + 1) next → k < first_bad_in (one bound field ∷ ps) c at next
        behind h r = rw (if-true (held c) (first_bad_in ps c (at + 1) next) at h) r

        go : (t : Bool) → held b ≡ t → k < first_bad_in (one bound field ∷ ps) c at next
        go true h =
            let f : first_bad_in ps b (at + 1) next ≡ k = sym (if-true (held b) (first_bad_in ps b (at + 1) next) at h) ∙ e in
            let g : at + 1 ≤ k = omega (arith, f, first-from ps b (at + 1) next l) in
            behind (rw (byte-same (at - 1) (omega (arith, g)), byte-same at (omega (arith, g))) h) (go_on f)
        go false h =
            let f : at ≡ k = sym (if-false (held b) (first_bad_in ps b (at + 1) next) at h) ∙ e in
            behind (unkept (eqb k at) (held c) (eq-eqb k at (sym f)) (not_left (bad_part (one bound field) c at k) (bad ps c (at + 1) k) z))
            (omega (arith, f, first-from ps c (at + 1) next l))

  -- a row: passed as before where the bad byte is behind it; else its fields up to the mended one are passed now
  module _ (w : Width) (n : ℕ) (bound : ℕ → Bool) (field : State → List ℕ) (ps : List Part) (at next : ℕ) (l : at + field_size w * n + sizes ps ≤ next) (m : k < next) where
    abbrev test : List ℕ → ℕ → Bool
    test d i = not (bound (field_at w d (at + field_size w * i)))

    abbrev index : List ℕ → ℕ
    index d = first_bad_field w n bound d at

    test-same : (i : ℕ) → at + field_size w * i + field_size w ≤ k → test c i ≡ test b i
    test-same i h = ap (λ (x : ℕ). not (bound x)) (field-same w (at + field_size w * i) h)

    -- where the mended field is one of the row, the first that is bad now comes behind it
    module _ (h : index b < n) (f : at + field_size w * index b ≡ k) (z : bad_part (row w n bound field) c at k ≡ false) where
      mended-one : test c (index b) ≡ false
      mended-one =
          let e : bound (field_at w c k) ≡ true = unkept (eqb k (at + field_size w * index b)) (bound (field_at w c k)) (eq-eqb k (at + field_size w * index b) (sym f))
          (some-not (λ i. eqb k (at + field_size w * i) && not (bound (field_at w c k))) n (index b) z h) in
          ap (λ (j : ℕ). not (bound (field_at w c j))) f ∙ ap not e

      behind-it : index b < index c
      behind-it = go (ltb (index c) (index b)) refl (eqb (index c) (index b)) refl
        where
          bad-now : index c ≤ index b → test c (index c) ≡ true
          bad-now q = (least-found (test c) n).here (omega (arith, q, h))

          go : (t : Bool) → ltb (index c) (index b) ≡ t → (u : Bool) → eqb (index c) (index b) ≡ u → index b < index c
          go true q u r =
              let i = ltb-true (index c) (index b) q in
              absurd (not-both (bad-now (omega (arith, i))) (test-same (index c) (omega (arith, f, step-on w (index c) (index b) i)) ∙ (least-found (test b) n).before (index c) i))
          go false q true r =
              let i = eqb-true (index c) (index b) r in
              absurd (not-both (bad-now (omega (arith, i))) (ap (test c) i ∙ mended-one))
          go false q false r = omega (arith, ltb-false (index c) (index b) q, eqb-false (index c) (index b) r)

      row-behind : k < first_bad_in (row w n bound field ∷ ps) c at next
      unfolding first_bad_row
      row-behind = go (ltb (index c) n) refl
        where
          go : (t : Bool) → ltb (index c) n ≡ t → k < first_bad_in (row w n bound field ∷ ps) c at next
          go true q =
              rw (if-true (ltb (index c) n) (at + field_size w * index c) (first_bad_in ps c (at + field_size w * n) next) q)
              (omega (arith, f, step-more w (index c) (index b) behind-it))
          go false q =
              rw (if-false (ltb (index c) n) (at + field_size w * index c) (first_bad_in ps c (at + field_size w * n) next) q)
              (omega (arith, f, step-more w n (index b) h, first-from ps c (at + field_size w * n) next l))

    row-later : first_bad_in (row w n bound field ∷ ps) b at next ≡ k → bad (row w n bound field ∷ ps) c at k ≡ false
        → (first_bad_in ps b (at + field_size w * n) next ≡ k → k < first_bad_in ps c (at + field_size w * n) next)
        → k < first_bad_in (row w n bound field ∷ ps) c at next
    unfolding first_bad_row
    row-later e z go_on = go (ltb (index b) n) refl
      where
        go : (t : Bool) → ltb (index b) n ≡ t → k < first_bad_in (row w n bound field ∷ ps) c at next
        go true h =
            let f : at + field_size w * index b ≡ k = sym (if-true (ltb (index b) n) (at + field_size w * index b) _ h) ∙ e in
            row-behind (ltb-true (index b) n h) f (not_left (bad_part (row w n bound field) c at k) (bad ps c (at + field_size w * n) k) z)
        go false h =
            let f : first_bad_in ps b (at + field_size w * n) next ≡ k = sym (if-false (ltb (index b) n) (at + field_size w * index b) _ h) ∙ e in
            let g : at + field_size w * n ≤ k = omega (arith, f, first-from ps b (at + field_size w * n) next l) in
            let s : index c ≡ index b = least-same (test c) (test b) n (λ i q. test-same i (omega (arith, g, step-on w i n q))) in
            rw (if-false (ltb (index c) n) (at + field_size w * index c) (first_bad_in ps c (at + field_size w * n) next) (ap (λ (i : ℕ). ltb i n) s ∙ h)) (go_on f)

  -- the first two stages look at none but the first three bytes and the length
  counted_same : 3 ≤ k → counted c ≡ counted b
  unfolding counted
  counted_same l = rw (length-set b k x, byte-same 0 (omega (arith, l)), byte-same 1 (omega (arith, l)))

  versioned-same : (v : Version) → 3 ≤ k → versioned v c ≡ versioned v b
  versioned-same v l = rw (length-set b k x, byte-same 2 (omega (arith, l)))

  -- the walk over the mended bytes ends behind the place at which it ended
  walked_on : (ps : List Part) (at next : ℕ) → at + sizes ps ≤ next → k < next → first_bad_in ps b at next ≡ k → bad ps c at k ≡ false
      → k < first_bad_in ps c at next
  walked_on [] at next l m e z = absurd (omega (arith, m, e))
  walked_on (one bound field ∷ ps) at next l m e z =
      one_later bound field ps at next (omega (arith, l)) m e z
      (λ f. walked_on ps (at + 1) next (omega (arith, l)) m f (not_right (bad_part (one bound field) c at k) (bad ps c (at + 1) k) z))
  walked_on (row w n bound field ∷ ps) at next l m e z =
      row-later w n bound field ps at next (omega (arith, l)) m e z
      (λ f. walked_on ps (at + field_size w * n) next (omega (arith, l)) m f (not_right (bad_part (row w n bound field) c at k) (bad ps c (at + field_size w * n) k) z))

-- mended bytes have met the first two stages, and their first bad field comes behind the one that was mended
module _ (v : Version) (b : List ℕ) (x : ℕ) (e : (read_as v b).reply ≡ BadField) where
  abbrev told_at : ℕ
  told_at = (read_as v b).place

  abbrev after : List ℕ
  after = set b told_at x

  behind-head : 3 ≤ told_at
  unfolding first_bad
  behind-head = let q = bad-field v b e in omega (arith, q.place, q.long, first-from (layout v) b parts_place (length b) (omega (arith, q.long)))

  pub still-counted : counted after ≡ true
  still-counted = counted_same b told_at x behind-head ∙ (bad-field v b e).counts

  pub still-versioned : versioned v after ≡ true
  still-versioned = versioned-same b told_at x v behind-head ∙ (bad-field v b e).versions

  pub later-place : bad (layout v) after parts_place told_at ≡ false → told_at < first_bad v after
  unfolding first_bad
  later-place z =
      let q = bad-field v b e in
      rw (length-set b told_at x)
      (walked_on b told_at x (layout v) parts_place (length b) (omega (arith, q.long)) (omega (arith, q.place, q.inside)) (sym q.place) z)
