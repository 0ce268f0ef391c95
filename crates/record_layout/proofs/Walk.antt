-- The walk over a list of parts finds the least bad place, by induction on the list; and none is bad exactly where every field of the layout keeps
-- its bound.
use mathlib.Core.Path.{◌≡◌, refl, sym, ap, ◌∙◌}
use mathlib.Core.List.{List, [], ◌∷◌}
use mathlib.Core.Bool.{Bool, true, false, cond, not, ◌&&◌, ◌||◌}
use Prim.Native.Nat.{ℕ, ◌+◌, ◌*◌, ◌-◌, ◌≤◌, ◌<◌}
use native.Mathlib.Nat.{le_refl}
use native.Mathlib.Omega.{arith}
use lib.ListN.{length, get_or}
use lib.Dec.{eqb, ltb}
use borrow.Author.Tests.{le-ltb, ltb-true, ltb-false, eq-eqb, eqb-true}
use Rattle.lists.proofs.Cond.{if-false}
use Rattle.lists.proofs.Search.{Found, least-found, least-none, found-one, some_of}
use Rattle.state.specs.declared.State.{State}
use Rattle.record_layout.specs.Fields.{Width, byte, pair, field_size, field_at}
use Rattle.record_layout.specs.Parts.{Part, one, row, sizes, first_bad_field, first_bad_row, first_bad_in, bad_part, bad}
use Rattle.record_layout.specs.declared.Version.{Version}
use Rattle.record_layout.specs.Layout.{layout}
use Rattle.record_layout.specs.Places.{parts_place}
use Rattle.record_layout.specs.Record.{first_bad, sound}
use Rattle.record_layout.proofs.Parts.{Good, good-clear, clear-good, either, kept, none}

-- the fields of parts start at the parts' place or behind it
pub bad-below : (ps : List Part) (b : List ℕ) (at k : ℕ) → k < at → bad ps b at k ≡ false
bad-below [] b at k l = refl
bad-below (one bound field ∷ ps) b at k l =
    either _ _ (kept (eqb k at) (bound (get_or b (at - 1) 0) (get_or b at 0)) (λ e. absurd (omega (arith, l, eqb-true k at e)))) (bad-below ps b (at + 1) k (omega (arith, l)))
bad-below (row w n bound field ∷ ps) b at k l =
    either _ _
    (none (λ i. eqb k (at + field_size w * i) && not (bound (field_at w b k))) n
    (λ i m. kept (eqb k (at + field_size w * i)) (bound (field_at w b k)) (λ e. absurd (omega (arith, l, eqb-true k (at + field_size w * i) e)))))
    (bad-below ps b (at + field_size w * n) k (omega (arith, l)))

or_left : (a b : Bool) → a ≡ true → (a || b) ≡ true
or_left a b e = cc

or_right : (a b : Bool) → b ≡ true → (a || b) ≡ true
or_right true b e = refl
or_right false b e = e

kept-false : (c : Bool) → not c ≡ false → c ≡ true
kept-false true e = refl
kept-false false e = sym e

step_less : (w : Width) (i m : ℕ) → field_size w * m < field_size w * i → m < i
step_less byte i m l = omega (arith, l)
step_less pair i m l = omega (arith, l)

pub step-more : (w : Width) (i m : ℕ) → m < i → field_size w * m < field_size w * i
step-more byte i m l = omega (arith, l)
step-more pair i m l = omega (arith, l)

-- a part of one byte: the walk stops at it, or goes on to what is found behind it
module _ (bound : ℕ → ℕ → Bool) (field : State → ℕ) (ps : List Part) (b : List ℕ) (at next : ℕ) where
  abbrev here : Bool
  here = bound (get_or b (at - 1) 0) (get_or b at 0)

  one_found : at + 1 ≤ next → Found (bad ps b (at + 1)) next (first_bad_in ps b (at + 1) next)
      → Found (bad (one bound field ∷ ps) b at) next (first_bad_in (one bound field ∷ ps) b at next)
  one_found l f = go here refl
    where
      go : (t : Bool) → here ≡ t → Found (bad (one bound field ∷ ps) b at) next (cond t (first_bad_in ps b (at + 1) next) at)
      go true e = record {
        inside-or-end = f.inside-or-end;
        before = λ j m. either _ _ (kept (eqb j at) here (λ q. e)) (f.before j m);
        here = λ m. or_right (bad_part (one bound field) b at (first_bad_in ps b (at + 1) next)) _ (f.here m);
      }
      go false e = record {
        inside-or-end = omega (arith, l);
        before = λ j m. bad-below (one bound field ∷ ps) b at j m;
        here = λ m. or_left (eqb at at && not here) _ (rw (eq-eqb at at refl, e));
      }

-- a row: the walk stops at its first bad field
module _ (w : Width) (n : ℕ) (bound : ℕ → Bool) (field : State → List ℕ) (ps : List Part) (b : List ℕ) (at next : ℕ) where
  abbrev test : ℕ → Bool
  test i = not (bound (field_at w b (at + field_size w * i)))

  abbrev index : ℕ
  index = first_bad_field w n bound b at

  -- no field of the row before one that passes starts at j and is bad
  clear-before : (i j : ℕ) → i ≤ n → ((m : ℕ) → m < i → test m ≡ false) → ((m : ℕ) → m < n → j ≡ at + field_size w * m → m < i)
      → bad_part (row w n bound field) b at j ≡ false
  clear-before i j l h g =
      none (λ m. eqb j (at + field_size w * m) && not (bound (field_at w b j))) n
      (λ m q. kept (eqb j (at + field_size w * m)) (bound (field_at w b j))
      (λ e. let p = eqb-true j (at + field_size w * m) e in ap (λ (k : ℕ). bound (field_at w b k)) p ∙ kept-false _ (h m (g m q p))))

  found : Found test n index
  found = least-found test n

  row-found : at + field_size w * n ≤ next → Found (bad ps b (at + field_size w * n)) next (first_bad_in ps b (at + field_size w * n) next)
      → Found (bad (row w n bound field ∷ ps) b at) next (first_bad_in (row w n bound field ∷ ps) b at next)
  unfolding first_bad_row
  row-found l f = go (ltb index n) refl
    where
      go : (t : Bool) → ltb index n ≡ t
          → Found (bad (row w n bound field ∷ ps) b at) next (cond t (at + field_size w * index) (first_bad_in ps b (at + field_size w * n) next))
      go true e =
          let i = ltb-true index n e in
          let m = step-more w n index i in
          record {
            inside-or-end = omega (arith, l, m);
            before = λ j q. either _ _ (clear-before index j found.inside-or-end found.before (λ k r p. step_less w index k (omega (arith, q, p)))) (bad-below ps b (at + field_size w * n) j (omega (arith, q, m)));
            here = λ q. or_left _ _ (some_of (λ k. eqb (at + field_size w * index) (at + field_size w * k) && not (bound (field_at w b (at + field_size w * index)))) n index i
                (rw (eq-eqb (at + field_size w * index) (at + field_size w * index) refl) (found.here i)));
          }
      go false e =
          let i = ltb-false index n e in
          record {
            inside-or-end = f.inside-or-end;
            before = λ j q. either _ _ (clear-before index j found.inside-or-end found.before (λ k r p. omega (arith, i, r))) (f.before j q);
            here = λ q. or_right (bad_part (row w n bound field) b at (first_bad_in ps b (at + field_size w * n) next)) _ (f.here q);
          }

-- the walk finds the least bad place
pub first_found : (ps : List Part) (b : List ℕ) (at next : ℕ) → at + sizes ps ≤ next → Found (bad ps b at) next (first_bad_in ps b at next)
first_found [] b at next l = record { inside-or-end = le_refl next; before = λ j m. refl; here = λ m. absurd (omega (arith, m)) }
first_found (one bound field ∷ ps) b at next l = one_found bound field ps b at next (omega (arith, l)) (first_found ps b (at + 1) next (omega (arith, l)))
first_found (row w n bound field ∷ ps) b at next l =
    row-found w n bound field ps b at next (omega (arith, l)) (first_found ps b (at + field_size w * n) next (omega (arith, l)))

-- a row of which any byte will do is passed
pub any-row : (w : Width) (n : ℕ) (b : List ℕ) (at next : ℕ) → first_bad_row w n (λ v. true) b at next ≡ next
unfolding first_bad_row
any-row w n b at next =
    if-false (ltb (first_bad_field w n (λ v. true) b at) n) _ _
    (le-ltb (first_bad_field w n (λ v. true) b at) n (omega (arith, least-none (λ (i : ℕ). false) n (λ i l. refl))))

-- no place is bad: every field keeps its bound
module _ (v : Version) (b : List ℕ) (l : length b ≡ parts_place + sizes (layout v)) where
  pub place_found : Found (bad (layout v) b parts_place) (length b) (first_bad v b)
  unfolding first_bad
  place_found = first_found (layout v) b parts_place (length b) (omega (arith, l))

  pub sound-good : sound v b ≡ true → Good (layout v) b parts_place
  sound-good e =
      let end : first_bad v b ≡ length b = eqb-true _ _ e in
      clear-good (layout v) b parts_place (omega (arith, l)) (λ k m. place_found.before k (omega (arith, end, m)))

  pub good-sound : Good (layout v) b parts_place → sound v b ≡ true
  good-sound g =
      eq-eqb (first_bad v b) (length b)
      (found-one (bad (layout v) b parts_place) (length b) (first_bad v b) (length b) place_found
      (record { inside-or-end = le_refl (length b); before = λ k m. good-clear (layout v) b parts_place g k; here = λ m. absurd (omega (arith, m)) }))
