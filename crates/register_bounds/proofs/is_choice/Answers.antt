-- `is_choice` tests the choice that its callee gives.
use borrow.Author.Rules.{rules}
use Rattle.register_bounds.proofs.is_choice.Goals as goal

pub returns : goal.returns
returns c = rw c.choice_of-choice.ensures
