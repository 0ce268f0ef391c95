-- Rules 9.21 to 9.24, 10.14 and 16.4: where the calls of a member go, or what refuses them.
use Rattle.std.specs.Prelude.{ℕ, List, cond, Result, Ok, Err}
use Rattle.reply.specs.declared.Reply.{Reply}
use Rattle.reply.specs.declared.Reply.TheVariants.{BadDesk, AlreadyOpen, NotOpen, DeskFull}
use Rattle.desk_places.specs.Desks.{well_formed, place_of, is_seated, free_of, has_room}

-- 21, 23, or the place of the member's seat
unfoldable pub place_in : List ℕ → ℕ → Result ℕ Reply
place_in d m = cond (well_formed d) (cond (is_seated d m) (Ok (place_of d m)) (Err NotOpen)) (Err BadDesk)

-- for a member that opens: 22, 24, or the place of the first free seat
unfoldable pub free_for : List ℕ → ℕ → Result ℕ Reply
free_for d m = cond (is_seated d m) (Err AlreadyOpen) (cond (has_room d) (Ok (free_of d)) (Err DeskFull))

-- with 21 before them
unfoldable pub free_in : List ℕ → ℕ → Result ℕ Reply
free_in d m = cond (well_formed d) (free_for d m) (Err BadDesk)
