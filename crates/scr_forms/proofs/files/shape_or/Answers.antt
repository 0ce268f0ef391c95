-- The two tests of the definition, in its order.
use mathlib.Core.Path.{sym, ◌∙◌}
use Rattle.lists.proofs.Cond.{if-true, if-false}
use borrow.Author.Rules.{rules}
use Rattle.scr_forms.proofs.files.shape_or.Goals as goal

pub returns-then-is_file_of : goal.returns-then-is_file_of
returns-then-is_file_of c = sym (if-true _ _ _ (sym c.is_file_of.ensures ∙ c.if-is_file_of.true))

pub returns-then-is_file_of-2 : goal.returns-then-is_file_of-2
returns-then-is_file_of-2 c =
    sym (if-false _ _ _ (sym c.is_file_of.ensures ∙ c.if-is_file_of.false) ∙ if-true _ _ _ (sym c.is_file_of-2.ensures ∙ c.if-is_file_of-2.true))

pub returns : goal.returns
returns c =
    sym (if-false _ _ _ (sym c.is_file_of.ensures ∙ c.if-is_file_of.false) ∙ if-false _ _ _ (sym c.is_file_of-2.ensures ∙ c.if-is_file_of-2.false))
