-- `lawful` is the conjunction of what its callees answer, in the order of the definition.
use Rattle.state.specs.Lawful.{lawful_state}
use borrow.Author.Rules.{rules}
use Rattle.state.proofs.bounds.lawful.Goals as goal

pub returns : goal.returns
unfolding lawful_state
returns c = cc
