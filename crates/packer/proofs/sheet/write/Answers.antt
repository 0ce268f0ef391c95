-- `write` leaves both buffers where there are too many tiles, and else writes the packing.
use Rattle.lists.proofs.Placed.{placed-whole}
use Rattle.packer.proofs.Filled.{filled}
use Rattle.pack_rule.specs.Greedy.{map_byte, packed_map, tile_count}
use Prim.Native.Nat.{◌≤◌, ◌<◌}
use native.Mathlib.Omega.{arith}
use mathlib.Core.Path.{refl, ◌∙◌}
use borrow.Author.Rules.{rules}
use Rattle.packer.proofs.sheet.write.Goals as goal

pub returns-in_err-n : goal.returns-in_err-n
returns-in_err-n c =
    let l : c.args.allowed < tile_count c.args.pic.now = rw c.in_err-n.was at c.pack_cells.ensures in
    rw c.from_residual.ensures (l, refl, refl)

pub write_definitions-requires : goal.write_definitions-requires
write_definitions-requires c =
    let g = c.in_ok-n.ensures.1 in
    (omega arith, g.cells-length, g.some_left, g.count, g.same, omega arith)

pub returns : goal.returns
unfolding packed_map
returns c =
    let a = c.args in
    let e = c.in_ok-n.ensures in
    let g = e.1 in (
      e.0,
      g.count,
      c.put.ensures ∙ placed-whole a.map.now _ (omega (arith, g.map-length)) ∙ filled (map_byte a.pic.now a.offset) 2560 _ g.map-length g.mapped,
      c.write_definitions.ensures,
    )
