-- Rules 9.3, 9.21, 9.24, 10.14 and 16.2 to 16.5: what makes a desk d well formed, who sits where on it, and a desk that is started.
use Rattle.std.specs.Prelude.{Option, Some, None, ℕ, List, Bool, cond, not, ◌&&◌, length, eqb, ltb}
use Rattle.lists.specs.Search.{least, some, all, count}
use Rattle.reply.specs.declared.Reply.{Reply}
use Rattle.reply.specs.declared.Reply.TheVariants.{Done, BufferLength}
use Rattle.desk_seats.specs.Seats.{seats, desk_length, zeros, seat_at, is_held, number_of, is_seat, sits}

-- the least i below n that passes p, where one does
unfoldable pub first_below : (ℕ → Bool) → ℕ → Option ℕ
first_below p n = cond (some p n) (Some (least p n)) None

-- seat i is held by a number that holds an earlier one
unfoldable pub is_again : List ℕ → ℕ → Bool
is_again d i = is_held (seat_at d i) && some (λ j. sits (number_of (seat_at d i)) (seat_at d j)) i

-- 21 where this fails: the length, the form of each seat, and no number twice
unfoldable pub well_formed : List ℕ → Bool
well_formed d = eqb (length d) desk_length && all (λ i. is_seat (seat_at d i) && not (is_again d i)) seats

-- the place of number m's seat, or 16 where it has none
unfoldable pub place_of : List ℕ → ℕ → ℕ
place_of d m = least (λ i. sits m (seat_at d i)) seats

-- number m has a seat: 22 and 23 ask for this
abbrev pub is_seated : List ℕ → ℕ → Bool
is_seated d m = ltb (place_of d m) seats

-- the place of the first seat that is not held, or 16
unfoldable pub free_of : List ℕ → ℕ
free_of d = least (λ i. not (is_held (seat_at d i))) seats

-- how many seats are held
unfoldable pub held_seats : List ℕ → ℕ
held_seats d = count (λ i. is_held (seat_at d i)) seats

-- 24 where this fails: not all sixteen are held
abbrev pub has_room : List ℕ → Bool
has_room d = ltb (held_seats d) seats

-- start: 3, whatever the bytes are
abbrev pub start_reply : List ℕ → Reply
start_reply d = cond (eqb (length d) desk_length) Done BufferLength

-- and the bytes afterwards
abbrev pub started : List ℕ → List ℕ
started d = cond (eqb (length d) desk_length) (zeros desk_length) d
