-- The part that is cut out is the seat.
use mathlib.Core.Path.{ap, ◌∙◌}
use lib.ListN.{length}
use Rattle.desk_seats.proofs.Cuts.{seat-lent}
use Rattle.desk_seats.proofs.Cuts.{length-seat}
use borrow.Author.Rules.{rules}
use Rattle.desk_seats.proofs.seats.seat_at.Goals as goal

pub returns : goal.returns
returns c =
    let a = c.args in let p = c.requires in (seat-lent a.desk.now a.i, ap length (seat-lent a.desk.now a.i) ∙ length-seat a.desk.now p.0 a.i p.1)
