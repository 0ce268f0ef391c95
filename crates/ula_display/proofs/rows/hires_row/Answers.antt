-- The first i pairs of columns are right, sixteen dots each.
use Rattle.ula_cell.specs.Rows.{hires_chosen}
use Rattle.lists.proofs.Tab.{tab-none, tab-done, tab-part}
use Rattle.lists.specs.Tab.{tab}
use lib.ListN.{length, take}
use mathlib.Core.Path.{◌≡◌}
use Prim.Native.Nat.{◌-◌, ◌*◌, ◌≤◌}
use native.Mathlib.Omega.{arith}
use borrow.Author.Rules.{rules}
use Rattle.ula_display.proofs.rows.hires_row.Goals as goal

pub loop-i-init : goal.loop-i-init
loop-i-init c = (search rules, search rules, tab-none _)

pub loop-i-preserved : goal.loop-i-preserved
loop-i-preserved c =
    let h = c.loop-i in
    (search rules, search rules, tab-part _ _ _ _ _ 16 _ (omega arith) h.invariant.2 c.hires_cell.ensures (omega arith))

pub returns : goal.returns
returns c =
    let e : c.loop-i.i ≡ 32 = omega arith in
    tab-done _ _ 512 c.loop-i.invariant.1 (rw e at c.loop-i.invariant.2)
