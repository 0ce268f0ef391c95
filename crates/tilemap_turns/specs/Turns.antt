-- Rules 5.3, 5.6 and 5.7: which pixel of a definition a place of a cell shows under a turn, and which half of a byte it is.
use Rattle.std.specs.Prelude.{ℕ, ◌-◌, ◌/◌, ◌%◌, Bool, true, false, cond, not, eqb}

-- the pixel at an x that a byte holds: high half left
unfoldable pub half_of : ℕ → ℕ → ℕ
half_of x byte = cond (eqb (x % 2) 0) (byte / 16 % 16) (byte % 16)

-- the turn of an entry is 4 × x mirror + 2 × y mirror + rotate
abbrev pub turn_of : ℕ → ℕ
turn_of high = high / 2 % 8

-- a coordinate within the cell, mirrored or not
abbrev pub mirrored : Bool → ℕ → ℕ
mirrored true v = 7 - v
mirrored false v = v

-- a is x within the cell, or 7 − x where exactly one of x mirror and rotate is set
abbrev pub a_of : ℕ → ℕ → ℕ
a_of turn x = mirrored (not (eqb (turn / 4 % 2) (turn % 2))) x

-- b is y, or 7 − y under y mirror
abbrev pub b_of : ℕ → ℕ → ℕ
b_of turn y = mirrored (eqb (turn / 2 % 2) 1) y

-- the definition's (column, row) is (a, b), or (b, a) under rotate
unfoldable pub column_of : ℕ → ℕ → ℕ → ℕ
column_of turn x y = cond (eqb (turn % 2) 1) (b_of turn y) (a_of turn x)

unfoldable pub row_of : ℕ → ℕ → ℕ → ℕ
row_of turn x y = cond (eqb (turn % 2) 1) (a_of turn x) (b_of turn y)
