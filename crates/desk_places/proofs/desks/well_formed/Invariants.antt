-- The seats before i are good.
use lib.ListN.{length}
use Rattle.desk_seats.specs.Seats.{desk_length}
use borrow.Author.Rules.{rules}
use native.Mathlib.Omega.{arith}
use Prim.Native.Nat.{◌≤◌, ◌-◌}
use mathlib.Core.Path.{◌≡◌}
use mathlib.Core.Bool.{not, ◌&&◌}
use Rattle.lists.specs.Search.{all}
use Rattle.desk_seats.specs.Seats.{seats, seat_at, is_seat}
use Rattle.desk_places.specs.Desks.{is_again}
use Rattle.lists.proofs.Loops.{all_none, all-next}
use Rattle.desk_places.proofs.Judged.{formed-wrong, formed-right}
use Rattle.desk_places.proofs.desks.well_formed.Given as goal

abbrev pub invariant-loop-i : goal.invariant-loop-i
invariant-loop-i l = (l.i ≤ seats) × (l.ok ≡ all (λ j. is_seat (seat_at l.desk j) && not (is_again l.desk j)) l.i)
