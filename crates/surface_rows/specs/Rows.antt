-- Where a row is painted over by a clip; what a clip is does not name these.
use Rattle.std.specs.Prelude.{ℕ, ◌+◌, ◌*◌, cond, leb}

-- dot d of a row of n dots, or the row's end
abbrev pub place_in : ℕ → ℕ → ℕ
place_in n d = cond (leb d n) d n

-- the first of the two dots of pixel x in a row of n dots, or the row's end
abbrev pub first_dot : ℕ → ℕ → ℕ
first_dot n x = place_in n (x * 2)

-- the dot after those of pixel x, or the row's end
abbrev pub past_dot : ℕ → ℕ → ℕ
past_dot n x = place_in n (x * 2 + 2)
