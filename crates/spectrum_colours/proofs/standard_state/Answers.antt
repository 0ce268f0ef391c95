-- `standard_state` is the writes of its definition, one after the other.
use Rattle.spectrum_colours.specs.Colours.{standard_state}
use borrow.Author.Rules.{rules}
use Rattle.spectrum_colours.proofs.standard_state.Goals as goal

pub returns : goal.returns
unfolding standard_state
returns c = rw (c.paint_ula.ensures, c.set.ensures, c.reset.ensures)
