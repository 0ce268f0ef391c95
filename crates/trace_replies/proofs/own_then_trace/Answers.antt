-- The two pieces in their order.
use mathlib.Core.Path.{refl}
use Rattle.reply.proofs.Order.{last-hit, next-hit}
use borrow.Author.Rules.{rules}
use Rattle.trace_replies.proofs.own_then_trace.Goals as goal

pub returns : goal.returns
returns c = next-hit _ _ _ _ _ refl (last-hit _ _ c.trace_reply.ensures) c.first_of.ensures
