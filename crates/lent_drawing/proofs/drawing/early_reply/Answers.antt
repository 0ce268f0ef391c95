-- The three pieces in their order.
use mathlib.Core.Path.{refl}
use Rattle.reply.proofs.Order.{last-hit, next-hit}
use borrow.Author.Rules.{rules}
use Rattle.lent_drawing.proofs.drawing.early_reply.Goals as goal

pub returns : goal.returns
returns c =
    let stored = c.args.stored in
    next-hit _ _ _ _ _ c.line_reply.ensures (next-hit _ _ _ _ _ c.lengths_reply-lengths.ensures (last-hit stored stored refl) c.first_of.ensures) c.first_of-2.ensures
