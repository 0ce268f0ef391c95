-- `example_state` is the writes of its definition, one after the other.
use Rattle.example_screen.specs.Written.{example_state}
use borrow.Author.Rules.{rules}
use Rattle.example_screen.proofs.registers_set.example_state.Goals as goal

pub returns : goal.returns
unfolding example_state
returns c =
    rw (c.write_port-e.ensures, c.set_tilemap-d.ensures, c.paint_tiles-c.ensures, c.set.ensures, c.paint_ula-b.ensures, c.set-a.ensures, c.reset.ensures)
