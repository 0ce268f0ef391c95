-- `setup_of` makes its record of what its callees give.
use Rattle.tilemap_setup.specs.Setup.{setup_of}
use borrow.Author.Rules.{rules}
use Rattle.tilemap_setup.proofs.setup.setup_of.Goals as goal

pub returns : goal.returns
unfolding setup_of
returns c = (cc, search rules)
