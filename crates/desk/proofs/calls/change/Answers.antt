-- The refusal of the place, or the change of the record in the seat (Lent).
use mathlib.Core.Path.{refl}
use native.Mathlib.Omega.{arith}
use Rattle.desk_places.proofs.Found.{at_place, refused-place}
use Rattle.desk.proofs.Lent.{inside, desk-left, exit-changed}
use borrow.Author.Rules.{rules}
use Rattle.desk.proofs.calls.change.Goals as goal

pub overflow_mul-at : goal.overflow_mul-at
overflow_mul-at c = omega (arith, (at_place _ _ _ _ c.find.ensures c.in-Ok.is).below)

pub overflow_add-at : goal.overflow_add-at
overflow_add-at c = omega (arith, (at_place _ _ _ _ c.find.ensures c.in-Ok.is).below)

pub overflow_mul-end : goal.overflow_mul-end
overflow_mul-end c = omega (arith, (at_place _ _ _ _ c.find.ensures c.in-Ok.is).below)

pub overflow_add-end : goal.overflow_add-end
overflow_add-end c = omega (arith, (at_place _ _ _ _ c.find.ensures c.in-Ok.is).below)

pub slice_bounds-change_record-end : goal.slice_bounds-change_record-end
slice_bounds-change_record-end c = let s = at_place _ _ _ _ c.find.ensures c.in-Ok.is in omega (arith, inside _ s.formed _ s.below)

pub returns-in-Err : goal.returns-in-Err
returns-in-Err c = desk-left _ _ _ _ refl (refused-place _ _ _ _ c.find.ensures c.in-Err.is)

pub returns-in-Ok : goal.returns-in-Ok
returns-in-Ok c =
    let s = at_place _ _ _ _ c.find.ensures c.in-Ok.is in exit-changed _ _ _ s _ _ _ c.desk-1.given.0 c.change_record.ensures
