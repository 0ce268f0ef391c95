-- The fallback over the composed line is the line of the state in the record.
use Rattle.lent_drawing.proofs.Drawn.{line-laid}
use borrow.Author.Rules.{rules}
use Rattle.lent_drawing.proofs.drawing.draw_line.Goals as goal

pub returns : goal.returns
returns c =
    let a = c.args in
    let u = c.ula_at-u in
    line-laid a.v a.bytes.now a.ula.now a.tile.now a.line _ _ u.result _ c.composed_record.ensures.0 u.ensures c.widen.ensures c.finish_line.ensures
