-- Rules 16.1 and 16.2: the seats of a desk, and what is a seat.
use Rattle.std.specs.Prelude.{ℕ, ◌*◌, ◌+◌, List, ◌∷◌, ◌++◌, Bool, cond, ◌&&◌, take, drop, get_or, replicate, eqb}
use Rattle.lists.specs.Search.{all}
use Rattle.reply.specs.Reply.{is_done}
use Rattle.record_layout.specs.Fields.{pair, field_bytes, field_at}
use Rattle.record_layout.specs.Version.{current}
use Rattle.record_layout.specs.Record.{record_length, read_current}

-- how many seats a desk has
abbrev pub seats : ℕ
seats = 16

-- a seat: one byte for held, two for the number, and a record
abbrev pub seat_length : ℕ
seat_length = 3 + record_length current

-- the bytes of a desk
abbrev pub desk_length : ℕ
desk_length = seats * seat_length

-- the bytes of seat i
unfoldable pub seat_at : List ℕ → ℕ → List ℕ
seat_at d i = take seat_length (drop (i * seat_length) d)

-- n bytes that are 0
abbrev pub zeros : ℕ → List ℕ
zeros n = replicate n 0

-- the bytes of a seat that number m holds with the record b
abbrev pub seat_of : ℕ → List ℕ → List ℕ
seat_of m b = 1 ∷ (field_bytes pair m ++ b)

-- ---- a seat s

-- it is held
abbrev pub is_held : List ℕ → Bool
is_held s = eqb (get_or s 0 0) 1

-- the number that holds it, high first
abbrev pub number_of : List ℕ → ℕ
number_of s = field_at pair s 1

-- its record
abbrev pub record_of_seat : List ℕ → List ℕ
record_of_seat s = drop 3 s

-- it is all 0
unfoldable pub is_free : List ℕ → Bool
is_free s = all (λ k. eqb (get_or s k 0) 0) seat_length

-- bytes that are a record of a lawful state, of the version that is written
unfoldable pub is_record : List ℕ → Bool
is_record b = is_done (read_current b).reply

-- a seat that is held has a record, and any other is free
unfoldable pub is_seat : List ℕ → Bool
is_seat s = cond (is_held s) (is_record (record_of_seat s)) (is_free s)

-- number m holds it
unfoldable pub sits : ℕ → List ℕ → Bool
sits m s = is_held s && eqb (number_of s) m
