-- `lawful_ula` is the chain of its tests, in the order of the definition.
use borrow.Author.Rules.{rules}
use Rattle.state.proofs.bounds.lawful_ula.Goals as goal

pub returns : goal.returns
returns c = cc
