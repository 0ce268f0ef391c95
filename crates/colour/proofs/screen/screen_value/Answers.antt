-- `screen_value` chooses by the bound of a colour.
use borrow.Author.Tests.{le-leb, lt-leb}
use Rattle.colour.specs.Screen.{screen_answer}
use Rattle.colour.proofs.screen.screen_value.Goals as goal

pub returns-then-colour-le511 : goal.returns-then-colour-le511
unfolding screen_answer
returns-then-colour-le511 c = rw (le-leb _ _ c.if-colour-le511.true, c.entry.ensures)

pub returns-else-colour-le511 : goal.returns-else-colour-le511
unfolding screen_answer
returns-else-colour-le511 c = rw (lt-leb _ _ c.if-colour-le511.false)
