-- The two layers joined are the composed line; without a tilemap the ULA's dots are.
use mathlib.Core.Path.{sym, ◌∙◌}
use Rattle.lent_drawing.proofs.Drawn.{layers-on, layers-off}
use borrow.Author.Rules.{rules}
use Rattle.lent_drawing.proofs.drawing.composed_record.Goals as goal

pub returns-then-tilemap_on : goal.returns-then-tilemap_on
returns-then-tilemap_on c =
    let a = c.args in
    let u = c.lay_ula.ensures in
    (layers-on a.v a.bytes.now a.ula.now a.tile.now a.line _ _ u.0 c.lay_tiles.ensures, u.1)

pub returns-else-tilemap_on : goal.returns-else-tilemap_on
returns-else-tilemap_on c =
    let a = c.args in
    let t = c.tiles_at-t in
    let u = c.lay_ula.ensures in
    (layers-off a.v a.bytes.now a.ula.now a.tile.now a.line _ t.result u.0 (t.ensures a.v) (sym c.tilemap_on.ensures ∙ c.if-tilemap_on.false), u.1)
