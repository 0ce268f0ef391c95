-- One test on both lengths.
use mathlib.Core.Path.{sym}
use Rattle.lists.proofs.Cond.{if-true, if-false}
use Rattle.layer_dots.specs.Numbers.{lent_reply}
use Rattle.layer_dots.proofs.numbers.lent_reply.Goals as goal

pub returns-then-layer2-sprites : goal.returns-then-layer2-sprites
unfolding lent_reply
returns-then-layer2-sprites c = sym (if-true _ _ _ c.if-layer2-sprites.true)

pub returns-else-layer2-sprites : goal.returns-else-layer2-sprites
unfolding lent_reply
returns-else-layer2-sprites c = sym (if-false _ _ _ c.if-layer2-sprites.false)
