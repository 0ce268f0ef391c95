-- One test on both dots.
use Rattle.line_dots.specs.Compose.{stencilled}
use Rattle.lists.proofs.Cond.{if-true, if-false}
use mathlib.Core.Path.{sym}
use Rattle.line_dots.proofs.dots.stencil_dot.Goals as goal

pub returns-then-a-b : goal.returns-then-a-b
unfolding stencilled
returns-then-a-b c = sym (if-true _ _ _ c.if-a-b.true)

pub returns-else-a-b : goal.returns-else-a-b
unfolding stencilled
returns-else-a-b c = sym (if-false _ _ _ c.if-a-b.false)
