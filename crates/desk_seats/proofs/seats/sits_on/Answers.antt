-- Held, and by that number.
use Rattle.desk_seats.proofs.Tests.{sits-is}
use borrow.Author.Rules.{rules}
use Rattle.desk_seats.proofs.seats.sits_on.Goals as goal

pub returns : goal.returns
returns c = sits-is _ _ _ _ c.is_held.ensures c.number_of.ensures
