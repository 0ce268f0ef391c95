-- The groups that are judged are read of the record.
use Rattle.lent_drawing.proofs.Drawn.{state-reply-read}
use borrow.Author.Rules.{rules}
use Rattle.lent_drawing.proofs.drawing.state_judged.Goals as goal

pub returns : goal.returns
returns c =
    let a = c.args in
    state-reply-read a.v a.bytes.now _ _ _ _ _ c.ula_at-u.ensures (c.tiles_at-t.ensures _) c.palette_at-p.ensures c.ports_at-ports.ensures c.state_reply.ensures
