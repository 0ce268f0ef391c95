-- Rules 9.21, 10.14 and 16.4 to 16.6: the calls on a desk, by its bytes before and after.
use Rattle.std.specs.Prelude.{ℕ, ◌+◌, ◌*◌, List, cond}
use Rattle.lists.specs.Placed.{placed}
use Rattle.reply.specs.declared.Reply.TheVariants.{BadDesk}
use Rattle.desk_seats.specs.Seats.{seat_length, zeros, seat_at, record_of_seat, seat_of}
use Rattle.desk_places.specs.Desks.{well_formed, place_of, is_seated, free_of, has_room}
use Rattle.desk.specs.Own.{Call, Outcome, Own, away, here, OwnResult, replied, own_call}

-- an answer, and the desk afterwards
pub record DeskResult : Type 0 where
  pub outcome : Outcome
  pub desk : List ℕ

-- what number m has of a desk
unfoldable pub own_of : List ℕ → ℕ → Own
own_of d m = cond (is_seated d m) (here (record_of_seat (seat_at d (place_of d m)))) away

-- the desk where number m has o in the place of what it had: its seat made all 0, its record put in its seat, or the first free seat taken
unfoldable pub settled : List ℕ → ℕ → Own → List ℕ
settled d m away = cond (is_seated d m) (placed d (place_of d m * seat_length) (zeros seat_length)) d
settled d m (here b) = cond (is_seated d m) (placed d (place_of d m * seat_length + 3) b) (placed d (free_of d * seat_length) (seat_of m b))

abbrev pub settled_by : List ℕ → ℕ → OwnResult → DeskResult
settled_by d m o = record { outcome = o.outcome; desk = settled d m o.own }

-- a call of number m on a desk; 21 before all other refusals
unfoldable pub desk_call : List ℕ → ℕ → Call → DeskResult
desk_call d m c = cond (well_formed d) (settled_by d m (own_call (has_room d) (own_of d m) c)) (record { outcome = replied BadDesk c; desk = d })
