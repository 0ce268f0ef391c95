-- The tests of the definition, in its order.
use Rattle.line_dots.specs.Shades.{shade_over}
use borrow.Author.Tests.{eq-eqb, ne_eqb}
use Rattle.lists.proofs.Cond.{if-true, if-false}
use mathlib.Core.Path.{sym, ◌∙◌}
use borrow.Author.Rules.{rules}
use Rattle.line_dots.proofs.dots.composed_dot.Goals as goal

pub returns-then-stencil : goal.returns-then-stencil
unfolding shade_over
returns-then-stencil c = (cc) ∙ sym (if-true _ _ _ c.if-stencil.true)

pub returns-then-v-eq1 : goal.returns-then-v-eq1
unfolding shade_over
returns-then-v-eq1 c = (cc) ∙ sym (if-false _ _ _ c.if-stencil.false ∙ if-true _ _ _ (eq-eqb _ _ c.if-v-eq1.true))

pub returns-else-v-eq1 : goal.returns-else-v-eq1
unfolding shade_over
returns-else-v-eq1 c = (cc) ∙ sym (if-false _ _ _ c.if-stencil.false ∙ if-false _ _ _ (ne_eqb _ _ c.if-v-eq1.false))
