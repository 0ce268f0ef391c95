-- `window_of` makes its record of the four coordinates.
use Rattle.tilemap_setup.specs.Setup.{window_of}
use borrow.Author.Rules.{rules}
use Rattle.tilemap_setup.proofs.setup.window_of.Goals as goal

pub returns : goal.returns
unfolding window_of
returns c = cc
