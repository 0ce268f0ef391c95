-- The four tests of the definition, in its order.
use Rattle.line_replies.specs.Replies.{state_reply}
use Rattle.lists.proofs.Cond.{if-true, if-false}
use mathlib.Core.Path.{sym, ◌∙◌}
use borrow.Author.Rules.{rules}
use Rattle.line_replies.proofs.replies.state_reply.Goals as goal

pub returns-then-lores_with_tiles : goal.returns-then-lores_with_tiles
unfolding state_reply
returns-then-lores_with_tiles c = sym (if-true _ _ _ (sym c.lores_with_tiles.ensures ∙ c.if-lores_with_tiles.true))

pub returns-then-next_with_plus : goal.returns-then-next_with_plus
unfolding state_reply
returns-then-next_with_plus c =
    sym (if-false _ _ _ (sym c.lores_with_tiles.ensures ∙ c.if-lores_with_tiles.false) ∙ if-true _ _ _ (sym c.next_with_plus.ensures ∙ c.if-next_with_plus.true))

pub returns-then-no_mode : goal.returns-then-no_mode
unfolding state_reply
returns-then-no_mode c =
    sym (if-false _ _ _ (sym c.lores_with_tiles.ensures ∙ c.if-lores_with_tiles.false) ∙ if-false _ _ _ (sym c.next_with_plus.ensures ∙ c.if-next_with_plus.false) ∙ if-true _ _ _ (sym c.no_mode.ensures ∙ c.if-no_mode.true))

pub returns-then-far_offset : goal.returns-then-far_offset
unfolding state_reply
returns-then-far_offset c =
    sym (if-false _ _ _ (sym c.lores_with_tiles.ensures ∙ c.if-lores_with_tiles.false) ∙ if-false _ _ _ (sym c.next_with_plus.ensures ∙ c.if-next_with_plus.false) ∙ if-false _ _ _ (sym c.no_mode.ensures ∙ c.if-no_mode.false) ∙ if-true _ _ _ (sym c.far_offset.ensures ∙ c.if-far_offset.true))

pub returns : goal.returns
unfolding state_reply
returns c =
    sym (if-false _ _ _ (sym c.lores_with_tiles.ensures ∙ c.if-lores_with_tiles.false) ∙ if-false _ _ _ (sym c.next_with_plus.ensures ∙ c.if-next_with_plus.false) ∙ if-false _ _ _ (sym c.no_mode.ensures ∙ c.if-no_mode.false) ∙ if-false _ _ _ (sym c.far_offset.ensures ∙ c.if-far_offset.false))
