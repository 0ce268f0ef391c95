-- With a window the tile dots are read from the row of shades; without one the line stays or goes.
use mathlib.Core.Path.{◌∙◌}
use Rattle.line_tiles.proofs.Laid.{layered-on, layered-gone, layered-bare}
use Rattle.line_dots.proofs.Shaded.{shaded}
use borrow.Author.Rules.{rules}
use native.Mathlib.Omega.{arith}
use Rattle.line_tiles.proofs.tiles.layered.Goals as goal

pub tile_row-requires : goal.tile_row-requires
tile_row-requires c =
    (c.requires.0, shaded _ c.args.pal.now c.args.transparent c.shade_palette.ensures c.requires.1, c.requires.2, c.requires.3, search rules)

pub returns-then-w : goal.returns-then-w
returns-then-w c =
    let a = c.args in
    c.compose_row.ensures
    ∙ layered-on a.t a.w a.transparent a.stencil a.pal.now a.bank.now a.out.now a.line.0 _ _ _ c.if-w.true c.requires.0 c.requires.1 (λ i. omega (arith, c.type_inv.bank i)) c.shade_palette.ensures c.tile_row.ensures

pub returns-then-stencil : goal.returns-then-stencil
returns-then-stencil c =
    let s = c.args in
    c.paint.ensures ∙ layered-gone s.t s.w s.transparent s.stencil s.pal.now s.bank.now s.out.now s.line.0 _ (search rules) c.if-w.false c.if-stencil.true

pub returns-else-stencil : goal.returns-else-stencil
returns-else-stencil c =
    let a = c.args in
    layered-bare a.t a.w a.transparent a.stencil a.pal.now a.bank.now a.out.now a.line.0 c.requires.4 c.if-w.false c.if-stencil.false
