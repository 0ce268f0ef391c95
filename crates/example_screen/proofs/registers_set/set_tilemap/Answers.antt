-- `set_tilemap` is three writes, one after the other.
use borrow.Author.Rules.{rules}
use Rattle.example_screen.proofs.registers_set.set_tilemap.Goals as goal

pub returns : goal.returns
returns c = rw (c.set.ensures, c.set-b.ensures, c.set-a.ensures)
