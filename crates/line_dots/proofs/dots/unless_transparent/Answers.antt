-- One test on the index.
use borrow.Author.Tests.{eq-eqb, ne_eqb}
use Rattle.line_dots.proofs.dots.unless_transparent.Goals as goal

pub returns-then-i-transparent : goal.returns-then-i-transparent
returns-then-i-transparent c = rw (eq-eqb _ _ c.if-i-transparent.true)

pub returns-else-i-transparent : goal.returns-else-i-transparent
returns-else-i-transparent c = rw (ne_eqb _ _ c.if-i-transparent.false)
