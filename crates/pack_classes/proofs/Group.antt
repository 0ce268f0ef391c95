-- The eight turns: one after another is a turn, and any turn is any other after some turn, by one test each that is computed
-- over the flag set; and none leaves the tile, as the claim on turns has it.
use mathlib.Core.Path.{◌≡◌, refl}
use mathlib.Core.Bool.{Bool, true, false, cond}
use Prim.Native.Nat.{ℕ, ◌<◌}
use lib.Dec.{eqb}
use borrow.Author.Tests.{eqb-true}
use Rattle.lists.specs.Search.{least, some, all}
use Rattle.lists.proofs.Search.{all-at, some_at, and_left, and_right}
use Rattle.tilemap_turns.specs.Turns.{column_of, row_of}
use Rattle.tilemap_turns.proofs.Claims.{turns_inside}
use Rattle.pack_classes.specs.Claims.{After}

-- at (x, y), t after u is s
after-at : ℕ → ℕ → ℕ → ℕ → ℕ → Bool
after-at t u s x y =
    cond (eqb (column_of t (column_of u x y) (row_of u x y)) (column_of s x y)) (eqb (row_of t (column_of u x y) (row_of u x y)) (row_of s x y)) false

after : ℕ → ℕ → ℕ → Bool
after t u s = all (λ x. all (λ y. after-at t u s x y) 8) 8

after_is : (t u s : ℕ) → after t u s ≡ true → After t u s
unfolding after after-at
after_is t u s e =
    record {
      columns = λ x y h k. eqb-true _ _ (and_left _ _ (all-at _ 8 (all-at _ 8 e x h) y k));
      rows = λ x y h k. eqb-true _ _ (and_right (eqb (column_of t (column_of u x y) (row_of u x y)) (column_of s x y)) _ (all-at _ 8 (all-at _ 8 e x h) y k));
    }

composed-test : all (λ t. all (λ u. some (after t u) 8) 8) 8 ≡ true
unfolding all least after after-at column_of row_of
composed-test = refl

-- one turn after another is a turn
pub composed : (t u : ℕ) → t < 8 → u < 8 → (s : ℕ) × (s < 8) × After t u s
composed t u h k =
    let w = some_at (after t u) 8 (all-at (λ u. some (after t u) 8) 8 (all-at (λ t. all (λ u. some (after t u) 8) 8) 8 composed-test t h) u k) in
    (w.0, w.1, after_is t u w.0 w.2)

divided-test : all (λ t. all (λ u. some (λ s. after t s u) 8) 8) 8 ≡ true
unfolding all least after after-at column_of row_of
divided-test = refl

-- each turn is any other after some turn
pub divided : (t u : ℕ) → t < 8 → u < 8 → (s : ℕ) × (s < 8) × After t s u
divided t u h k =
    let w = some_at (λ s. after t s u) 8 (all-at (λ u. some (λ s. after t s u) 8) 8 (all-at (λ t. all (λ u. some (λ s. after t s u) 8) 8) 8 divided-test t h) u k) in
    (w.0, w.1, after_is t w.0 u w.2)

-- a turn stays within the tile
pub column-small : (t x y : ℕ) → x < 8 → y < 8 → column_of t x y < 8
column-small t x y h k = (turns_inside t x y h k).0

pub row_small : (t x y : ℕ) → x < 8 → y < 8 → row_of t x y < 8
row_small t x y h k = (turns_inside t x y h k).1
