-- The pieces in their order, taken together from the last.
use Rattle.line_replies.specs.Replies.{draw_reply}
use Rattle.reply.proofs.Order.{last-hit, next-hit}
use borrow.Author.Rules.{rules}
use Rattle.line_order.proofs.draw_reply.Goals as goal

pub returns : goal.returns
unfolding draw_reply
returns c =
    next-hit _ _ _ _ _ c.line_reply.ensures (next-hit _ _ _ _ _ c.lengths_reply.ensures (next-hit _ _ _ _ _ c.lawful_reply-lawful.ensures (last-hit _ _ c.state_reply-state.ensures) c.first_of-last.ensures) c.first_of.ensures) c.first_of-2.ensures
