-- The four pieces in their order.
use mathlib.Core.Path.{refl}
use Rattle.reply.proofs.Order.{last-hit, next-hit}
use borrow.Author.Rules.{rules}
use Rattle.layers.proofs.drawing.early_reply.Goals as goal

pub returns : goal.returns
returns c =
    let own = c.args.state in
    let last = next-hit _ _ _ _ _ c.lent_reply.ensures (last-hit own own refl) c.first_of-last.ensures in
    next-hit _ _ _ _ _ c.line_reply.ensures (next-hit _ _ _ _ _ c.lengths_reply.ensures last c.first_of.ensures) c.first_of-2.ensures
