-- The tests of the definition.
use mathlib.Core.Path.{sym, ◌∙◌}
use Rattle.lists.proofs.Cond.{if-true, if-false}
use Rattle.trace_replies.specs.Replies.{whole_lengths}
use Rattle.trace_replies.proofs.whole_lengths.Goals as goal

pub returns-then-dots-replies : goal.returns-then-dots-replies
unfolding whole_lengths
returns-then-dots-replies c = sym (if-true _ _ _ c.if-ula-tile.true ∙ if-true _ _ _ c.if-dots-replies.true)

pub returns-else-dots-replies : goal.returns-else-dots-replies
unfolding whole_lengths
returns-else-dots-replies c = sym (if-true _ _ _ c.if-ula-tile.true ∙ if-false _ _ _ c.if-dots-replies.false)

pub returns-else-ula-tile : goal.returns-else-ula-tile
unfolding whole_lengths
returns-else-ula-tile c = sym (if-false _ _ _ c.if-ula-tile.false)
