-- The composed line of the state in the record, with the lent lines laid over it.
use Rattle.record_layout.specs.Record.{state_as}
use Rattle.layers.proofs.Layers.{row-bounds, line-laid}
use borrow.Author.Rules.{rules}
use Rattle.lent_layers.proofs.drawing.draw_line.Goals as goal

pub lay_layers-requires : goal.lay_layers-requires
lay_layers-requires c =
    let a = c.args in
    let p = c.requires in
    let d = c.composed_record.ensures in
    row-bounds (state_as a.v a.bytes.now) a.ula.now a.tile.now a.layer2.now a.sprites.now _ a.line _ c.ula_at-u.ensures d.0 d.1 p.0.lawful p.5 p.6 p.7 p.8

pub returns : goal.returns
returns c =
    let a = c.args in
    line-laid (state_as a.v a.bytes.now) a.ula.now a.tile.now a.layer2.now a.sprites.now _ a.line _ c.ula_at-u.ensures c.composed_record.ensures.0 _ c.lay_layers.ensures
