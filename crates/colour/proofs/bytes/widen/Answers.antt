-- `widen` chooses by the two blue bits of the byte.
use borrow.Author.Tests.{eq-eqb, ne_eqb}
use Rattle.colour.specs.Bytes.{widened}
use borrow.Author.Rules.{rules}
use Rattle.colour.proofs.bytes.widen.Goals as goal

pub returns-then-w-eq0 : goal.returns-then-w-eq0
unfolding widened
returns-then-w-eq0 c = rw (← c.from-w.ensures, eq-eqb _ _ c.if-w-eq0.true)

pub returns-else-w-eq0 : goal.returns-else-w-eq0
unfolding widened
returns-else-w-eq0 c = rw (← c.from-w.ensures, ne_eqb _ _ c.if-w-eq0.false)
