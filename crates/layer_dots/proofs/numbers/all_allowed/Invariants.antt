-- What is gathered of the first k places is 0 where all their numbers are allowed.
use Prim.Native.Nat.{◌-◌, ◌≤◌}
use mathlib.Core.Path.{◌≡◌}
use lib.Dec.{eqb}
use Rattle.lists.specs.Search.{all}
use Rattle.layer_dots.specs.Numbers.{both_allowed}
use Rattle.layer_dots.proofs.numbers.all_allowed.Given as goal

abbrev pub invariant-loop-k : goal.invariant-loop-k
invariant-loop-k l = (l.k ≤ 640) × (eqb l.excess 0 ≡ all (both_allowed l.layer2 l.sprites) l.k)

abbrev pub decreases-loop-k : goal.decreases-loop-k
decreases-loop-k l = 640 - l.k
