-- The ULA's row, then the tilemap's over and under it where it is on; the bounds of both are given.
use lib.ListN.{length}
use borrow.Author.Tests.{leb-true}
use native.Mathlib.Omega.{arith}
use mathlib.Core.Path.{sym, ap, ◌∙◌}
use Rattle.lists.proofs.Tab.{length-tab}
use Rattle.line.proofs.ShownParts.{laid-shown, bare-shown}
use borrow.Author.Rules.{rules}
use Rattle.line.proofs.lines.composed_shown.Goals as goal

pub tiles_over-requires : goal.tiles_over-requires
tiles_over-requires c =
    let b = c.requires.0 in
    (b.xhigh, b.map, b.definitions, b.colours (sym c.tilemap_on.ensures ∙ c.if-tilemap_on.true), omega (arith, leb-true c.args.line.0 255 c.requires.1), c.requires.3, ap length c.ula_row.ensures ∙ length-tab _ 640)

pub returns-then-tilemap_on : goal.returns-then-tilemap_on
returns-then-tilemap_on c =
    let a = c.args in
    laid-shown a.ula.now a.tile.now a.line a.v a.ulapal.now a.tilepal.now _ _ c.ula_row.ensures c.tiles_over.ensures

pub returns-else-tilemap_on : goal.returns-else-tilemap_on
returns-else-tilemap_on c =
    let a = c.args in
    bare-shown a.ula.now a.tile.now a.line a.v a.ulapal.now a.tilepal.now _ c.ula_row.ensures (sym c.tilemap_on.ensures ∙ c.if-tilemap_on.false)
