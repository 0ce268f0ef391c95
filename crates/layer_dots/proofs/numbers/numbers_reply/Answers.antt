-- One test on all numbers.
use mathlib.Core.Path.{sym, ◌∙◌}
use Rattle.lists.proofs.Cond.{if-true, if-false}
use Rattle.layer_dots.specs.Numbers.{numbers_reply}
use Rattle.layer_dots.proofs.numbers.numbers_reply.Goals as goal

pub returns-then-all_allowed : goal.returns-then-all_allowed
unfolding numbers_reply
returns-then-all_allowed c = sym (if-true _ _ _ (sym c.all_allowed.ensures ∙ c.if-all_allowed.true))

pub returns-else-all_allowed : goal.returns-else-all_allowed
unfolding numbers_reply
returns-else-all_allowed c = sym (if-false _ _ _ (sym c.all_allowed.ensures ∙ c.if-all_allowed.false))
