-- The pieces in their order.
use Rattle.reply.proofs.Order.{next-hit}
use Rattle.trace_replies.specs.Replies.{whole_reply}
use borrow.Author.Rules.{rules}
use Rattle.trace_replies.proofs.whole_reply.Goals as goal

pub returns : goal.returns
unfolding whole_reply
returns c = next-hit _ _ _ _ _ c.whole_lengths.ensures c.own_then_trace-last.ensures c.first_of.ensures
