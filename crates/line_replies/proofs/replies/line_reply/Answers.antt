-- One test.
use Rattle.line_replies.specs.Replies.{line_reply}
use Rattle.lists.proofs.Cond.{if-true, if-false}
use mathlib.Core.Path.{sym, ◌∙◌}
use borrow.Author.Rules.{rules}
use Rattle.line_replies.proofs.replies.line_reply.Goals as goal

pub returns-then-is_line : goal.returns-then-is_line
unfolding line_reply
returns-then-is_line c = sym (if-true _ _ _ (sym c.is_line.ensures ∙ c.if-is_line.true))

pub returns-else-is_line : goal.returns-else-is_line
unfolding line_reply
returns-else-is_line c = sym (if-false _ _ _ (sym c.is_line.ensures ∙ c.if-is_line.false))
