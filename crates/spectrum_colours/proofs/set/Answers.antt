-- `set` keeps the state of what a write answers.
use borrow.Author.Rules.{rules}
use Rattle.spectrum_colours.proofs.set.Goals as goal

pub returns : goal.returns
returns c = rw c.write_register-a.ensures
