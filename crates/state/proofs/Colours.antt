-- All colours of a palette are tested one after the other, and each keeps the bound.
use mathlib.Core.Path.{◌≡◌, sym, ap, ◌∙◌}
use mathlib.Core.List.{List, [], ◌∷◌}
use mathlib.Core.Bool.{Bool, true, ◌&&◌}
use Prim.Native.Nat.{ℕ, zero, suc, ◌+◌, ◌≤◌, ◌<◌}
use native.Mathlib.Numerals.{add-one}
use lib.ListN.{length, drop, get_or, drop_of_length-le}
use lib.Seq.{drop-cons}
use native.Mathlib.Omega.{arith}
use borrow.Author.Tests.{leb-true}
use Rattle.lists.proofs.Cond.{and_assoc, and-true, left-true, right-true}
use Rattle.register_bounds.specs.Bounds.{colour_fits}
use Rattle.state.specs.Lawful.{all_colours}

-- a palette of colours has one at each index, and 0 past its end
pub colour-at : (pal : List ℕ) (i : ℕ) → all_colours pal ≡ true → get_or pal i 0 ≤ 511
colour-at [] i e = omega arith
colour-at (x ∷ xs) zero e = leb-true x 511 (left-true (colour_fits x) (all_colours xs) e)
colour-at (x ∷ xs) (suc i) e = colour-at xs i (right-true (colour_fits x) (all_colours xs) e)

pub colours-more : (a : List ℕ) (i : ℕ) (ok : Bool) → i < length a → all_colours a ≡ (ok && all_colours (drop i a))
    → all_colours a ≡ ((ok && colour_fits (get_or a i 0)) && all_colours (drop (i + 1) a))
colours-more a i ok h e =
    let d : all_colours (drop i a) ≡ (colour_fits (get_or a i 0) && all_colours (drop (i + 1) a)) = rw (add-one, drop-cons a i 0) in
    e ∙ ap (λ (b : Bool). ok && b) d ∙ and_assoc ok _ _

pub colours-end : (a : List ℕ) (i : ℕ) (ok : Bool) → length a ≤ i → all_colours a ≡ (ok && all_colours (drop i a)) → ok ≡ all_colours a
colours-end a i ok h e =
    let d : all_colours (drop i a) ≡ true = rw (drop_of_length-le a h) in
    sym (e ∙ ap (λ (b : Bool). ok && b) d ∙ and-true ok)
