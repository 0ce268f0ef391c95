-- `mirror` chooses by its flag.
use borrow.Author.Rules.{rules}
use Rattle.tilemap_turns.proofs.turns.mirror.Goals as goal

pub returns-then-on : goal.returns-then-on
returns-then-on c = (rw c.if-on.true, search rules)
