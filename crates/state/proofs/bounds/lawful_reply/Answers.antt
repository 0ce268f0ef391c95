-- One of two replies, as the callee says.
use mathlib.Core.Path.{sym, ◌∙◌}
use Rattle.lists.proofs.Cond.{if-true, if-false}
use borrow.Author.Rules.{rules}
use Rattle.state.proofs.bounds.lawful_reply.Goals as goal

pub returns-then-lawful : goal.returns-then-lawful
returns-then-lawful c = sym (if-true _ _ _ (sym c.lawful.ensures ∙ c.if-lawful.true))

pub returns-else-lawful : goal.returns-else-lawful
returns-else-lawful c = sym (if-false _ _ _ (sym c.lawful.ensures ∙ c.if-lawful.false))
