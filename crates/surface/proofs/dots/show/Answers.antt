-- `show` chooses by one test, on the byte of $14 as a larger number.
use borrow.Author.Tests.{eq-eqb, ne_eqb}
use Rattle.surface.specs.Dots.{shown}
use borrow.Author.Rules.{rules}
use Rattle.surface.proofs.dots.show.Goals as goal

pub returns-then-c-from : goal.returns-then-c-from
unfolding shown
returns-then-c-from c = rw (← c.from.ensures, eq-eqb _ _ c.if-c-from.true)

pub returns-else-c-from : goal.returns-else-c-from
unfolding shown
returns-else-c-from c = rw (← c.from.ensures, ne_eqb _ _ c.if-c-from.false)
