-- The first k dots are right.
use Rattle.ula_cell.specs.Rows.{chosen_dot}
use Rattle.lists.specs.Tab.{tab}
use lib.ListN.{take}
use mathlib.Core.Path.{◌≡◌}
use Prim.Native.Nat.{ℕ, ◌/◌}
use Rattle.ula_cell.proofs.cells.pixels.Given as goal

abbrev pub invariant-loop-k : goal.invariant-loop-k
invariant-loop-k l = take l.k l.out ≡ tab (λ (j : ℕ). chosen_dot l.b (j / 2) l.bit1 l.bit0) l.k
