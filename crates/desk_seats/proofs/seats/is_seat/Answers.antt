-- The record of a seat that is held, or all bytes 0.
use Rattle.desk_seats.proofs.Cuts.{record-part}
use Rattle.desk_seats.proofs.Tests.{seat-held, seat-free}
use borrow.Author.Rules.{rules}
use Rattle.desk_seats.proofs.seats.is_seat.Goals as goal

pub returns-then-is_held : goal.returns-then-is_held
returns-then-is_held c =
    seat-held _ _ _ _ _ c.is_held.ensures c.if-is_held.true c.reply_as.ensures (record-part c.args.seat.now c.requires) c.is_done.ensures

pub returns-else-is_held : goal.returns-else-is_held
returns-else-is_held c = seat-free _ _ _ c.is_held.ensures c.if-is_held.false c.is_free.ensures
