-- One test on the order.
use mathlib.Core.Path.{sym, ap, ◌∙◌}
use Prim.Native.Nat.{ℕ}
use lib.Dec.{leb}
use borrow.Author.Tests.{le-leb, lt-leb}
use Rattle.lists.proofs.Cond.{if-true, if-false}
use Rattle.layer_dots.specs.Numbers.{order_reply}
use Rattle.layer_dots.proofs.numbers.order_reply.Goals as goal

pub returns-then-layer_order-le5 : goal.returns-then-layer_order-le5
unfolding order_reply
returns-then-layer_order-le5 c = sym (if-true _ _ _ (ap (λ (n : ℕ). leb n 5) (sym c.layer_order.ensures) ∙ le-leb _ 5 c.if-layer_order-le5.true))

pub returns-else-layer_order-le5 : goal.returns-else-layer_order-le5
unfolding order_reply
returns-else-layer_order-le5 c = sym (if-false _ _ _ (ap (λ (n : ℕ). leb n 5) (sym c.layer_order.ensures) ∙ lt-leb _ 5 c.if-layer_order-le5.false))
