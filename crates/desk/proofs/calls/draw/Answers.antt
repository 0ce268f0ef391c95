-- The refusal of the place, or the line of the record in the seat (Lent).
use mathlib.Core.Path.{refl}
use Rattle.desk_places.proofs.Judged.{formed-long}
use Rattle.desk_places.proofs.Found.{at_place, refused-place}
use Rattle.desk.specs.Own.{drawing}
use Rattle.desk.proofs.Lent.{line-left, exit-drawn}
use borrow.Author.Rules.{rules}
use Rattle.desk.proofs.calls.draw.Goals as goal

pub record_at-requires : goal.record_at-requires
record_at-requires c = let s = at_place _ _ _ _ c.find.ensures c.in-Ok.is in (formed-long _ s.formed, s.below)

pub returns-in-Err : goal.returns-in-Err
returns-in-Err c =
    let a = c.args in line-left _ _ _ (drawing a.line a.ula.now a.tile.now a.dots.now) refl (refused-place _ _ _ _ c.find.ensures c.in-Err.is)

pub returns-in-Ok : goal.returns-in-Ok
returns-in-Ok c =
    let a = c.args in let s = at_place _ _ _ _ c.find.ensures c.in-Ok.is in exit-drawn _ _ _ s _ c.record_at.ensures a.line a.ula.now a.tile.now a.dots.now _ _ c.draw_record.ensures
