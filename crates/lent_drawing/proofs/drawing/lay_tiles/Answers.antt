-- The groups that the tilemap shows are read of the record, and its dots are those of the state in it.
use native.Mathlib.Omega.{arith}
use borrow.Author.Tests.{leb-true}
use Rattle.lists.specs.Tab.{tab}
use Rattle.lent_drawing.proofs.Drawn.{tiles-read, tile-colours, tile-palette-read, tiles-laid}
use borrow.Author.Rules.{rules}
use Rattle.lent_drawing.proofs.drawing.lay_tiles.Goals as goal

pub tiles_over-requires : goal.tiles_over-requires
tiles_over-requires c =
    let b = c.args.bytes.now in
    let v = c.args.v in
    let t = c.tiles_at-t in
    let k = tiles-read v b c.requires.0 t.result (t.ensures v) in
    let e = tile-palette-read v b _ _ c.colours_at-pal.ensures t.result (t.ensures v) c.tile_place.ensures.0 in
    (k.0, k.1, k.2, tile-colours v b c.requires.0 _ e, omega (arith, leb-true c.args.line.0 255 c.requires.1), c.requires.2, c.requires.3)

pub returns : goal.returns
unfolding tab
returns c =
    let a = c.args in
    let b = a.bytes.now in
    let v = a.v in
    let t = c.tiles_at-t in
    let e = tile-palette-read v b _ _ c.colours_at-pal.ensures t.result (t.ensures v) c.tile_place.ensures.0 in
    tiles-laid v b a.bank.now a.line _ t.result _ _ a.dots.now _ c.ula_at-u.ensures (t.ensures v) c.tile_clip_at-clip.ensures e c.tiles_over.ensures
