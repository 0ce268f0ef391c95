-- `mark_term` multiplies a weight and the square of a pixel. That each weight is small is computed once over the table.
use Rattle.pack_classes.specs.Mark.{weight_at, mark_term}
use Rattle.lists.proofs.Search.{all-at}
use Rattle.lists.proofs.Tab.{length-tab, get_or-tab}
use Rattle.lists.specs.Search.{all}
use Rattle.lists.specs.Tab.{tab}
use native.Mathlib.Nat.{mul-le-mul}
use borrow.Author.Tests.{leb-true}
use lib.ListN.{length, get_or}
use lib.Dec.{leb}
use mathlib.Core.Bool.{true}
use mathlib.Core.List.{List}
use Prim.Native.Nat.{ℕ, ◌*◌, ◌≤◌, ◌<◌}
use native.Mathlib.Omega.{arith}
use mathlib.Core.Path.{◌≡◌, refl, ap₂}
use borrow.Author.Rules.{rules}
use Rattle.pack_cells.proofs.marks.mark_term.Goals as goal

small-test : all (λ i. leb (weight_at i) 9304) 64 ≡ true
unfolding all weight_at
small-test = refl

-- an entry of the weights is that of their rule, and small
module _ (ws : List ℕ) (e : ws ≡ tab weight_at 64) where
  long : length ws ≡ 64
  long = rw e (length-tab weight_at 64)

  right : (i : ℕ) → i < 64 → get_or ws i 0 ≡ weight_at i
  right i h = rw e (get_or-tab weight_at 64 i h)

  small : (i : ℕ) → i < 64 → get_or ws i 0 ≤ 9304
  small i h = rw (right i h) (leb-true _ _ (all-at (λ i. leb (weight_at i) 9304) 64 small-test i h))

pub bounds-weights-i : goal.bounds-weights-i
bounds-weights-i c = omega (arith, long c.args.weights.now c.requires.1, c.requires.2)

pub overflow_mul-result : goal.overflow_mul-result
overflow_mul-result c = omega (arith, mul-le-mul (small c.args.weights.now c.requires.1 c.args.i c.requires.2) c.square.ensures.1)

pub returns : goal.returns
unfolding mark_term
returns c =
    let w = c.args.weights.now in
    (ap₂ (λ (x y : ℕ). x * y) (right w c.requires.1 c.args.i c.requires.2) c.square.ensures.0, mul-le-mul (small w c.requires.1 c.args.i c.requires.2) c.square.ensures.1)
