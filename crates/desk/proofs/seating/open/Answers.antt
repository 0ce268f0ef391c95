-- The refusal of the opening, or the free seat taken (Lent).
use native.Mathlib.Omega.{arith}
use Rattle.desk_places.proofs.Found.{at-free, refused-free}
use Rattle.desk.proofs.Lent.{inside, opening-left, exit-opened}
use borrow.Author.Rules.{rules}
use Rattle.desk.proofs.seating.open.Goals as goal

pub overflow_mul-at : goal.overflow_mul-at
overflow_mul-at c = omega (arith, (at-free _ _ _ _ c.find_free.ensures c.in-Ok.is).below)

pub overflow_add-end : goal.overflow_add-end
overflow_add-end c = omega (arith, (at-free _ _ _ _ c.find_free.ensures c.in-Ok.is).below)

pub slice_bounds-take_seat-end : goal.slice_bounds-take_seat-end
slice_bounds-take_seat-end c = let f = at-free _ _ _ _ c.find_free.ensures c.in-Ok.is in omega (arith, inside _ f.formed _ f.below)

pub returns-in-Err : goal.returns-in-Err
returns-in-Err c = opening-left _ _ _ (refused-free _ _ _ _ c.find_free.ensures c.in-Err.is)

pub returns-in-Ok : goal.returns-in-Ok
returns-in-Ok c = let f = at-free _ _ _ _ c.find_free.ensures c.in-Ok.is in exit-opened _ _ _ f _ c.desk-1.given.0 c.take_seat.ensures
