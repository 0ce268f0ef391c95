-- Rules 3.11 and 4.20: nine-bit colours from bytes, those of $41 and those of ULAplus.
use Rattle.std.specs.Prelude.{ℕ, ◌+◌, ◌*◌, ◌/◌, ◌%◌, cond, eqb}

-- $41: eight-bit colour; the ninth bit is the OR of its two blue bits
unfoldable pub widened : ℕ → ℕ
widened b = cond (eqb (b % 4) 0) (b * 2) (b * 2 + 1)

-- a ULAplus byte is GGGRRRBb; its blue is Bbb
abbrev pub plus_colour : ℕ → ℕ
plus_colour b = b / 4 % 8 * 64 + b / 32 * 8 + b % 4 * 2 + b % 2
