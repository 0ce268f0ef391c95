-- The two tests of the definition.
use Rattle.line_replies.specs.Replies.{lengths_reply}
use borrow.Author.Tests.{eq-eqb, ne_eqb}
use Rattle.lists.proofs.Cond.{if-true, if-false}
use mathlib.Core.Path.{sym, ◌∙◌}
use Rattle.line_replies.proofs.replies.lengths_reply.Goals as goal

pub returns-then-out-eq640 : goal.returns-then-out-eq640
unfolding lengths_reply
returns-then-out-eq640 c = sym (if-true _ _ _ c.if-ula-tile.true ∙ if-true _ _ _ (eq-eqb _ _ c.if-out-eq640.true))

pub returns-else-out-eq640 : goal.returns-else-out-eq640
unfolding lengths_reply
returns-else-out-eq640 c = sym (if-true _ _ _ c.if-ula-tile.true ∙ if-false _ _ _ (ne_eqb _ _ c.if-out-eq640.false))

pub returns-else-ula-tile : goal.returns-else-ula-tile
unfolding lengths_reply
returns-else-ula-tile c = sym (if-false _ _ _ c.if-ula-tile.false)
