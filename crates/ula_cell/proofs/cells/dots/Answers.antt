-- The first k dots are right.
use Rattle.ula_cell.specs.Rows.{chosen_dot}
use Rattle.lists.proofs.Tab.{tab-none, tab-step}
use mathlib.Core.Path.{ap, ◌∙◌}
use Prim.Native.Nat.{ℕ}
use native.Mathlib.Omega.{arith}
use Rattle.ula_cell.proofs.cells.dots.Goals as goal

pub loop-k-init : goal.loop-k-init
loop-k-init c = tab-none _

pub loop-k-preserved : goal.loop-k-preserved
loop-k-preserved c =
    let s = c.args in
    tab-step _ _ _ _ (omega arith) c.loop-k.invariant (c.choose_dot.ensures ∙ ap (λ (b : ℕ). chosen_dot b c.loop-k.k s.bit1 s.bit0) c.byte_of.ensures)
