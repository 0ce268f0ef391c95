-- The pieces in their order.
use Rattle.reply.proofs.Order.{next-hit}
use Rattle.trace_replies.specs.Replies.{asked_reply}
use borrow.Author.Rules.{rules}
use Rattle.trace_replies.proofs.asked_reply.Goals as goal

pub returns : goal.returns
unfolding asked_reply
returns c =
    next-hit _ _ _ _ _ c.line_reply.ensures (next-hit _ _ _ _ _ c.lengths_reply.ensures c.own_then_trace-last.ensures c.first_of.ensures) c.first_of-2.ensures
