-- Both tests of a seat.
use Rattle.desk_places.proofs.Judged.{good-is}
use borrow.Author.Rules.{rules}
use Rattle.desk_places.proofs.desks.is_good.Goals as goal

pub returns : goal.returns
returns c = good-is _ _ _ _ _ c.seat_at.ensures.0 c.is_seat-seat.ensures c.is_again-again.ensures
