-- Rules 3.3, 3.5, 3.13, 3.17, 3.20, 3.21, 3.23, 3.33, 5.1 and 5.2: what a bit of a stored byte means.
use Rattle.std.specs.Prelude.{ℕ, ◌+◌, ◌*◌, ◌/◌, ◌%◌, Bool, true, false, leb, ltb, eqb}
use Rattle.state.specs.declared.Ula.{Ula}
use Rattle.state.specs.declared.Tiles.{Tiles}
use Rattle.state.specs.declared.Palette.{Palette}

-- $08: bit 2 allows Timex modes
abbrev pub timex_on : Ula → Bool
timex_on u = eqb (u.peripheral / 4 % 2) 1

-- $15: bit 7 LoRes
abbrev pub lores_on : Ula → Bool
lores_on u = leb 128 u.layers

-- $15: bits 4-2 are the order of the layers
abbrev pub layer_order : Ula → ℕ
layer_order u = u.layers / 4 % 8

-- $43: bit 7 keeps the palette index where it is
abbrev pub index_stays : ℕ → Bool
index_stays control = leb 128 control

-- $43: bit 1 the ULA palette shown, the second where it is set
abbrev pub ula_second_shown : Palette → Bool
ula_second_shown p = eqb (p.control / 2 % 2) 1

-- $43: bit 0 ULANext
abbrev pub next_on : Palette → Bool
next_on p = eqb (p.control % 2) 1

-- $68: bit 7 ULA off
abbrev pub ula_on : Ula → Bool
ula_on u = ltb u.control 128

-- $68: bit 0 stencil
abbrev pub stencil_set : Ula → Bool
stencil_set u = eqb (u.control % 2) 1

-- $6B: bit 7 tilemap on
abbrev pub tilemap_on : Tiles → Bool
tilemap_on t = leb 128 t.control

-- $6B: bit 6 80 columns
abbrev pub columns80 : Tiles → Bool
columns80 t = eqb (t.control / 64 % 2) 1

-- $6B: bit 5 one byte an entry, with $6C
abbrev pub one_byte_entries : Tiles → Bool
one_byte_entries t = eqb (t.control / 32 % 2) 1

-- $6B: bit 4 the tilemap palette shown, the second where it is set
abbrev pub tile_second_shown : Tiles → Bool
tile_second_shown t = eqb (t.control / 16 % 2) 1

-- 80 columns or 40
abbrev pub columns_of : Bool → ℕ
columns_of true = 80
columns_of false = 40

-- width W is 320 or 640
abbrev pub width_of : Bool → ℕ
width_of columns80 = columns_of columns80 * 8

-- $2F, $30: the X offset, high byte and low
abbrev pub x_offset : Tiles → ℕ
x_offset t = t.xhigh * 256 + t.xlow
