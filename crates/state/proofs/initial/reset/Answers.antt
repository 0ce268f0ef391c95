-- `reset` puts together the groups that its callees give and the arrays of the paper.
use Rattle.state.specs.Reset.{reset_state}
use borrow.Author.Rules.{rules}
use Rattle.state.proofs.initial.reset.Goals as goal

pub returns : goal.returns
unfolding reset_state
returns c = rw (c.reset_ula-ula.ensures, c.reset_tiles-tiles.ensures, c.reset_palette-palette.ensures)
