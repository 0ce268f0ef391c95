-- `top_dot` chooses by one test.
use borrow.Author.Tests.{eq-eqb, ne_eqb}
use Rattle.surface.specs.Dots.{top_dot}
use Rattle.surface.proofs.dots.top_dot.Goals as goal

pub returns-then-upper-eq512 : goal.returns-then-upper-eq512
unfolding top_dot
returns-then-upper-eq512 c = rw (eq-eqb _ _ c.if-upper-eq512.true)

pub returns-else-upper-eq512 : goal.returns-else-upper-eq512
unfolding top_dot
returns-else-upper-eq512 c = rw (ne_eqb _ _ c.if-upper-eq512.false)
