-- The conjunction of the groups, in the order of the definition.
use borrow.Author.Rules.{rules}
use Rattle.state.proofs.bounds.lawful_registers.Goals as goal

pub returns : goal.returns
returns c = cc
