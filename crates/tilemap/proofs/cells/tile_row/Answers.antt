-- The shades of the first i cells are right, and what lies after them is as it was.
use Rattle.std.proofs.Common.{◌≡◌, ◌+◌, ◌-◌, ◌*◌, arith}
use Rattle.tilemap.proofs.Rows.{row-none, row-part, row_done}
use Rattle.tilemap.proofs.cells.tile_row.Goals as goal

pub loop-i-init : goal.loop-i-init
loop-i-init c = row-none _ _

pub loop-i-preserved : goal.loop-i-preserved
loop-i-preserved c =
    let i = c.loop-i.i in
    let e : (i + 1) * 8 ≡ i * 8 + 8 = omega arith in
    let n : i * 8 + 8 - i * 8 ≡ 8 = omega arith in
    rw e (row-part _ _ _ _ _ _ c.loop-i.invariant c.cell_shades.ensures n)

pub returns : goal.returns
returns c = row_done _ _ _ _ _ _ _ _ c.down_map-ty.ensures.0 (omega arith) c.loop-i.invariant
