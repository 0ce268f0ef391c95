-- A search for the seat's own number among those before it.
use Rattle.desk_places.proofs.Judged.{again-is}
use Rattle.desk_places.proofs.desks.is_again.Goals as goal

pub returns : goal.returns
returns c = again-is _ _ _ _ _ _ _ c.seat_at-seat.ensures.0 c.is_held.ensures c.number_of.ensures c.first_of.ensures c.is_some.ensures
