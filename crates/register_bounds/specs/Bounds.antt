-- Rules 3.6, 3.16, 3.17, 3.19 to 3.21, 3.23, 3.24, 3.27, 3.31 and 3.32: the bound of each register, once. A lawful state, a write and a stored
-- record all go by these.
use Rattle.std.specs.Prelude.{ℕ, ◌/◌, ◌%◌, Bool, ◌||◌, leb, ltb, eqb}

-- $27 and $33 at most 191
abbrev pub offset_yfits : ℕ → Bool
offset_yfits v = leb v 191

-- $42: one of eight ink masks
abbrev pub is_mask : ℕ → Bool
is_mask x = eqb x 1 || eqb x 3 || eqb x 7 || eqb x 15 || eqb x 31 || eqb x 63 || eqb x 127 || eqb x 255

-- $43: bits 6-4 choose the palette written
abbrev pub choice_of : ℕ → ℕ
choice_of control = control / 16 % 8

-- $43: bits 6-4 are 000, 100, 011 or 111
abbrev pub is_choice : ℕ → Bool
is_choice control = let n = choice_of control in eqb n 0 || eqb n 4 || eqb n 3 || eqb n 7

-- $44: the held byte is 0 when none is held
abbrev pub half_fits : Bool → ℕ → Bool
half_fits held v = held || eqb v 0

-- $4C at most 15
abbrev pub tile_transparent_fits : ℕ → Bool
tile_transparent_fits v = leb v 15

-- $68: bits 5-1 zero
abbrev pub ula_control_fits : ℕ → Bool
ula_control_fits v = eqb (v / 2 % 32) 0

-- $6B: bits 3-0 zero
abbrev pub tile_control_fits : ℕ → Bool
tile_control_fits v = eqb (v % 16) 0

-- $2F at most 3
abbrev pub x_high_fits : ℕ → Bool
x_high_fits v = leb v 3

-- $6E and $6F below 64
abbrev pub base_fits : ℕ → Bool
base_fits v = ltb v 64

-- turns are at most 3
abbrev pub turn_fits : ℕ → Bool
turn_fits v = leb v 3

-- $FE: the border is at most 7
abbrev pub border_fits : ℕ → Bool
border_fits v = leb v 7

-- $BF3B below 128
abbrev pub select_fits : ℕ → Bool
select_fits v = ltb v 128

-- colours are at most 511
abbrev pub colour_fits : ℕ → Bool
colour_fits v = leb v 511
