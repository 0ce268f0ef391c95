-- The first c columns are right.
use Rattle.ula_display.specs.Rows.{lores_shade}
use Rattle.lists.proofs.Tab.{tab-none, tab-step}
use native.Mathlib.Omega.{arith}
use Rattle.ula_display.proofs.rows.lores_shades.Goals as goal

pub loop-c-init : goal.loop-c-init
loop-c-init c = tab-none _

pub loop-c-preserved : goal.loop-c-preserved
unfolding lores_shade
loop-c-preserved c = tab-step _ _ _ _ (omega arith) c.loop-c.invariant (cc)
