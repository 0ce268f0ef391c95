-- The search for the first colour above 511, which its high byte tells.
use mathlib.Core.Path.{◌≡◌, sym, ap, ◌∙◌}
use mathlib.Core.List.{List}
use mathlib.Core.Bool.{true, not}
use Prim.Native.Nat.{ℕ, ◌+◌, ◌*◌, ◌≤◌, ◌<◌}
use native.Mathlib.Omega.{arith}
use lib.Dec.{ltb}
use lib.ListN.{take, drop, get_or}
use lib.Seq.{get_or-take, get_or-drop}
use borrow.Author.Tests.{le-leb, lt-leb, lt-ltb, le-ltb}
use Rattle.lists.proofs.Cond.{if-true, if-false}
use Rattle.lists.proofs.Search.{least-here, least-none}
use Rattle.register_bounds.specs.Bounds.{colour_fits}
use Rattle.record_layout.specs.Fields.{pair, field_at}
use Rattle.record_layout.specs.Parts.{first_bad_field, first_bad_row}
use Rattle.record_layout.proofs.BadAt.{high_byte_lem}

-- the colours before one are colours
abbrev pub Fit : List ℕ → ℕ → ℕ → Type 0
Fit b at n = (i : ℕ) → i < n → colour_fits (field_at pair b (at + 2 * i)) ≡ true

-- the high bytes in a part that is cut out
pub high_of : (b : List ℕ) (at n i : ℕ) → i * 2 < n → get_or (take n (drop at b)) (i * 2) 0 ≡ get_or b (at + 2 * i) 0
high_of b at n i h =
    let e : at + i * 2 ≡ at + 2 * i = omega arith in
    get_or-take n (drop at b) (i * 2) 0 h ∙ get_or-drop at b (i * 2) 0 ∙ ap (λ (k : ℕ). get_or b k 0) e

module _ (b : List ℕ) (at : ℕ) where
  pub fits-here : (i : ℕ) → get_or b (at + 2 * i) 0 ≤ 1 → get_or b (at + 2 * i + 1) 0 < 256 → colour_fits (field_at pair b (at + 2 * i)) ≡ true
  fits-here i h y = high_byte_lem _ _ y ∙ le-leb _ _ h

  bad-test : (i : ℕ) → 1 < get_or b (at + 2 * i) 0 → get_or b (at + 2 * i + 1) 0 < 256 → not (colour_fits (field_at pair b (at + 2 * i))) ≡ true
  bad-test i h y = ap not (high_byte_lem (get_or b (at + 2 * i) 0) (get_or b (at + 2 * i + 1) 0) y ∙ lt-leb (get_or b (at + 2 * i) 0) 1 h)

  pub found_here : (i next : ℕ) → i < 256 → 1 < get_or b (at + 2 * i) 0 → get_or b (at + 2 * i + 1) 0 < 256 → Fit b at i → at + 2 * i ≡ first_bad_row pair 256 colour_fits b at next
  unfolding first_bad_row
  found_here i next l h y f =
      let e : i ≡ first_bad_field pair 256 colour_fits b at = least-here (λ (k : ℕ). not (colour_fits (field_at pair b (at + 2 * k)))) 256 i l (λ k m. ap not (f k m)) (bad-test i h y) in
      ap (λ (k : ℕ). at + 2 * k) e ∙ sym (if-true (ltb (first_bad_field pair 256 colour_fits b at) 256) _ _ (lt-ltb (first_bad_field pair 256 colour_fits b at) 256 (omega (arith, e, l))))

  pub found_none : (next : ℕ) → Fit b at 256 → next ≡ first_bad_row pair 256 colour_fits b at next
  unfolding first_bad_row
  found_none next f =
      let e : 256 ≡ first_bad_field pair 256 colour_fits b at = least-none (λ (k : ℕ). not (colour_fits (field_at pair b (at + 2 * k)))) 256 (λ k m. ap not (f k m)) in
      sym (if-false (ltb (first_bad_field pair 256 colour_fits b at) 256) _ _ (le-ltb (first_bad_field pair 256 colour_fits b at) 256 (omega (arith, e))))
