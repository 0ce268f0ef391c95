-- The two pieces in their order.
use Rattle.reply.proofs.Order.{last-hit, next-hit}
use Rattle.layer_dots.proofs.numbers.layers_reply.Goals as goal

pub returns : goal.returns
returns c = next-hit _ _ _ _ _ c.order_reply.ensures (last-hit _ _ c.numbers_reply.ensures) c.first_of.ensures
