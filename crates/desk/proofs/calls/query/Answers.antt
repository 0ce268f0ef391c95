-- The refusal of the place, or the question to the record in the seat (Lent).
use mathlib.Core.Path.{refl}
use Rattle.desk_places.proofs.Judged.{formed-long}
use Rattle.desk_places.proofs.Found.{at_place, refused-place}
use Rattle.desk.specs.Own.{asking}
use Rattle.desk.proofs.Lent.{value_none, exit-asked}
use borrow.Author.Rules.{rules}
use Rattle.desk.proofs.calls.query.Goals as goal

pub record_at-requires : goal.record_at-requires
record_at-requires c = let s = at_place _ _ _ _ c.find.ensures c.in-Ok.is in (formed-long _ s.formed, s.below)

pub returns-in-Err : goal.returns-in-Err
returns-in-Err c = let a = c.args in value_none _ _ _ (asking a.q) refl (refused-place _ _ _ _ c.find.ensures c.in-Err.is)

pub returns-in-Ok : goal.returns-in-Ok
returns-in-Ok c =
    let s = at_place _ _ _ _ c.find.ensures c.in-Ok.is in exit-asked _ _ _ s _ c.record_at.ensures _ _ c.query_record.ensures
