-- 22, the first free seat, or 24 (Found).
use Rattle.desk_places.proofs.Found.{free-seated, free-found}
use Rattle.desk_places.proofs.places.free_for.Goals as goal

pub returns-then-is_some : goal.returns-then-is_some
returns-then-is_some c = free-seated _ _ _ _ c.first_of.ensures c.is_some.ensures c.if-is_some.true

pub returns-in_default : goal.returns-in_default
returns-in_default c = free-found _ _ _ _ _ c.first_of.ensures c.is_some.ensures c.if-is_some.false c.in_default.ensures

pub returns : goal.returns
returns c = free-found _ _ _ _ _ c.first_of.ensures c.is_some.ensures c.if-is_some.false c.in-Some.ensures
