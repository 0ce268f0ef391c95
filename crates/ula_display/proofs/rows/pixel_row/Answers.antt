-- The first i cells are right, sixteen dots each.
use Rattle.ula_cell.specs.Cells.{pixel_dot}
use Rattle.lists.proofs.Tab.{tab-none, tab-done, tab-part}
use Rattle.lists.specs.Tab.{tab}
use lib.ListN.{length, take}
use mathlib.Core.Path.{◌≡◌}
use Prim.Native.Nat.{ℕ, ◌-◌, ◌*◌, ◌/◌, ◌≤◌}
use native.Mathlib.Omega.{arith}
use borrow.Author.Rules.{rules}
use Rattle.ula_display.proofs.rows.pixel_row.Goals as goal

pub loop-i-init : goal.loop-i-init
loop-i-init c = (search rules, search rules, tab-none _)

pub pixel_cell-requires : goal.pixel_cell-requires
pixel_cell-requires c =
    (c.requires.0, c.bitmap_address-bits.ensures.0, c.attribute_address-cells.ensures.0, omega (arith, c.bitmap_address-bits.ensures.1), omega (arith, c.attribute_address-cells.ensures.1), c.requires.1, c.requires.2, search rules, search rules)

pub loop-i-preserved : goal.loop-i-preserved
loop-i-preserved c =
    let h = c.loop-i in
    (search rules, search rules, tab-part _ _ _ _ _ 16 _ (omega arith) h.invariant.2 c.pixel_cell.ensures (omega arith))

pub returns : goal.returns
returns c =
    let e : c.loop-i.i ≡ 32 = omega arith in
    tab-done _ _ 512 c.loop-i.invariant.1 (rw e at c.loop-i.invariant.2)
