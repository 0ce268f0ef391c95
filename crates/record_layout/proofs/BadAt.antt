-- Where bad fields stand: what is bad at a place is the part there, since the fields of the parts before it start before it and those behind it
-- start behind it.
use mathlib.Core.Path.{◌≡◌, refl, sym, ap, ◌∙◌}
use mathlib.Core.List.{List, [], ◌∷◌}
use mathlib.Core.Bool.{Bool, true, false, not, ◌&&◌, ◌||◌}
use Prim.Native.Nat.{ℕ, zero, suc, ◌+◌, ◌*◌, ◌-◌, ◌≤◌, ◌<◌}
use native.Mathlib.Nat.{le_refl}
use native.Mathlib.Omega.{arith}
use lib.ListN.{drop, get_or}
use lib.Dec.{eqb, leb}
use borrow.Author.Tests.{eq-eqb, eqb-true, le-leb, lt-leb}
use Rattle.lists.specs.Bytes.{Bytes}
use Rattle.lists.specs.Search.{some}
use Rattle.lists.proofs.Cond.{right-false}
use Rattle.lists.proofs.Search.{some_of}
use Rattle.register_bounds.specs.Bounds.{colour_fits}
use Rattle.state.specs.declared.State.{State}
use Rattle.record_layout.specs.Fields.{pair, field_size, field_at}
use Rattle.record_layout.specs.Parts.{Part, one, row, size, bad_part, bad}
use Rattle.record_layout.proofs.Parts.{place_of, kept, none}
use Rattle.record_layout.proofs.Walk.{bad-below, step-more}

part-past : (p : Part) (b : List ℕ) (at k : ℕ) → at + size p ≤ k → bad_part p b at k ≡ false
part-past (one bound field) b at k l = kept (eqb k at) (bound (get_or b (at - 1) 0) (get_or b at 0)) (λ e. absurd (omega (arith, l, eqb-true k at e)))
part-past (row w n bound field) b at k l =
    none (λ i. eqb k (at + field_size w * i) && not (bound (field_at w b k))) n
    (λ i m. kept (eqb k (at + field_size w * i)) (bound (field_at w b k)) (λ e. absurd (omega (arith, l, step-more w n i m, eqb-true k (at + field_size w * i) e))))

place-from : (n : ℕ) (ps : List Part) (at : ℕ) → at ≤ place_of n ps at
place-from zero ps at = le_refl at
place-from (suc n) [] at = le_refl at
place-from (suc n) (p ∷ ps) at = omega (arith, place-from n ps (at + size p))

-- at the n-th part and behind it, the parts before it are not bad
bad-later : (n : ℕ) (ps : List Part) (b : List ℕ) (at k : ℕ) → place_of n ps at ≤ k → bad ps b at k ≡ bad (drop n ps) b (place_of n ps at) k
bad-later zero ps b at k l = refl
bad-later (suc n) [] b at k l = refl
bad-later (suc n) (p ∷ ps) b at k l =
    ap (λ (x : Bool). x || bad ps b (at + size p) k) (part-past p b at k (omega (arith, l, place-from n ps (at + size p)))) ∙ bad-later n ps b (at + size p) k l

or-neither : (a : Bool) {c : Bool} → c ≡ false → (a || c) ≡ a
or-neither true e = refl
or-neither false e = e

-- within a part, only it
pub bad-within : (n : ℕ) (ps qs : List Part) (p : Part) (b : List ℕ) (at k : ℕ) → drop n ps ≡ p ∷ qs → place_of n ps at ≤ k → k < place_of n ps at + size p
    → bad ps b at k ≡ bad_part p b (place_of n ps at) k
bad-within n ps qs p b at k d l m =
    bad-later n ps b at k l ∙ ap (λ (x : List Part). bad x b (place_of n ps at) k) d
    ∙ or-neither (bad_part p b (place_of n ps at) k) (bad-below qs b (place_of n ps at + size p) k m)

-- a colour is at most 511 exactly where its high byte is at most 1
pub high_byte_lem : (x y : ℕ) → y < 256 → leb (x * 256 + y) 511 ≡ leb x 1
high_byte_lem zero y h = le-leb (0 * 256 + y) 511 (omega arith)
high_byte_lem (suc zero) y h = le-leb (1 * 256 + y) 511 (omega arith)
high_byte_lem (suc (suc x)) y h = lt-leb (suc (suc x) * 256 + y) 511 (omega arith) ∙ sym (lt-leb (suc (suc x)) 1 (omega arith))

-- a palette: bad at the high bytes that are above 1, and at no low byte
module _ (field : State → List ℕ) (b : List ℕ) (at i : ℕ) (l : i < 256) where
  abbrev place : ℕ
  place = at + 2 * i

  pub palette-high : Bytes b → bad_part (row pair 256 colour_fits field) b at place ≡ not (leb (get_or b place 0) 1)
  palette-high y = go (not (colour_fits (field_at pair b place))) refl ∙ ap not (high_byte_lem (get_or b place 0) (get_or b (place + 1) 0) (y (place + 1)))
    where
      go : (t : Bool) → not (colour_fits (field_at pair b place)) ≡ t → some (λ m. eqb place (at + 2 * m) && not (colour_fits (field_at pair b place))) 256 ≡ t
      go true e = some_of (λ m. eqb place (at + 2 * m) && not (colour_fits (field_at pair b place))) 256 i l (rw (eq-eqb place place refl) e)
      go false e = none (λ m. eqb place (at + 2 * m) && not (colour_fits (field_at pair b place))) 256 (λ m q. right-false (eqb place (at + 2 * m)) e)

  pub palette-low : bad_part (row pair 256 colour_fits field) b at (place + 1) ≡ false
  palette-low =
      none (λ m. eqb (place + 1) (at + 2 * m) && not (colour_fits (field_at pair b (place + 1)))) 256
      (λ m q. kept (eqb (place + 1) (at + 2 * m)) (colour_fits (field_at pair b (place + 1))) (λ e. absurd (omega (arith, eqb-true (place + 1) (at + 2 * m) e))))
