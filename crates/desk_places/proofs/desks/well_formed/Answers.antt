-- The seats before i are good.
use lib.ListN.{length}
use Rattle.desk_seats.specs.Seats.{desk_length}
use borrow.Author.Rules.{rules}
use native.Mathlib.Omega.{arith}
use Prim.Native.Nat.{◌≤◌, ◌-◌}
use mathlib.Core.Path.{◌≡◌}
use mathlib.Core.Bool.{not, ◌&&◌}
use Rattle.lists.specs.Search.{all}
use Rattle.desk_seats.specs.Seats.{seats, seat_at, is_seat}
use Rattle.desk_places.specs.Desks.{is_again}
use Rattle.lists.proofs.Loops.{all_none, all-next}
use Rattle.desk_places.proofs.Judged.{formed-wrong, formed-right}
use Rattle.desk_places.proofs.desks.well_formed.Goals as goal

pub returns-then-desk : goal.returns-then-desk
returns-then-desk c = formed-wrong _ c.if-desk.true

pub loop-i-init : goal.loop-i-init
loop-i-init c = (omega arith, all_none _)

pub loop-i-preserved : goal.loop-i-preserved
loop-i-preserved c =
    let d = c.args.desk.now in (omega arith, all-next (λ j. is_seat (seat_at d j) && not (is_again d j)) c.loop-i.i _ _ c.is_good-ok.ensures c.loop-i.invariant.1)

pub returns : goal.returns
returns c =
    let d = c.args.desk.now in let h : length d ≡ desk_length = omega arith in formed-right d _ c.loop-i.i h (omega arith) c.loop-i.invariant.1
