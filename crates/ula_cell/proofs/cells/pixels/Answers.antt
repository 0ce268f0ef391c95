-- The first k dots are right.
use Rattle.lists.proofs.Tab.{tab-none, tab-step}
use native.Mathlib.Omega.{arith}
use Rattle.ula_cell.proofs.cells.pixels.Goals as goal

pub loop-k-init : goal.loop-k-init
loop-k-init c = tab-none _

pub loop-k-preserved : goal.loop-k-preserved
loop-k-preserved c = tab-step _ _ _ _ (omega arith) c.loop-k.invariant c.choose_dot.ensures
