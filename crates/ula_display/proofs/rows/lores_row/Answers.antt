-- The first d dots are those of their columns.
use Rattle.ula_display.proofs.Shows.{lores-fill}
use Rattle.lists.proofs.Tab.{tab-none, tab-step, tab-done, tab-ext}
use lib.ListN.{length, take, get_or}
use mathlib.Core.Path.{◌≡◌, ap, ◌∙◌}
use Prim.Native.Nat.{ℕ, ◌/◌}
use native.Mathlib.Omega.{arith}
use Rattle.ula_display.proofs.rows.lores_row.Goals as goal

pub loop-d-init : goal.loop-d-init
loop-d-init c = tab-none _

pub loop-d-preserved : goal.loop-d-preserved
loop-d-preserved c =
    let shades = c.lores_shades.new.out in
    tab-step _ _ _ _ (omega arith) c.loop-d.invariant (ap (λ (n : ℕ). get_or shades n 0) c.lores_column.ensures.0)

pub returns : goal.returns
returns c =
    let e : c.loop-d.d ≡ 512 = omega arith in
    tab-done _ _ 512 (omega arith) (rw e at c.loop-d.invariant) ∙ tab-ext _ _ 512 (λ d g. lores-fill _ _ _ _ _ (d / 2) c.lores_shades.ensures)
