-- `lawful_tiles` is the chain of its tests, in the order of the definition.
use borrow.Author.Rules.{rules}
use Rattle.state.proofs.bounds.lawful_tiles.Goals as goal

pub returns : goal.returns
returns c = cc
