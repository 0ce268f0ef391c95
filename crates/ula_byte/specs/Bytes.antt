-- Rules 4.4 to 4.6 and 4.9 to 4.11: the bytes of the bank, by row y' and column x' div 8.
use Rattle.std.specs.Prelude.{ℕ, ◌+◌, ◌-◌, ◌*◌, ◌/◌, ◌%◌, ◌^◌, cond, leb}

-- byte address: (y' div 64) × 2048 + (y' mod 8) × 256 + (y' div 8 mod 8) × 32 + x' div 8
abbrev pub byte_address : ℕ → ℕ → ℕ
byte_address y column = y / 64 * 2048 + y % 8 * 256 + y / 8 % 8 * 32 + column

-- the leftmost pixel is bit 7
abbrev pub bit_of : ℕ → ℕ → ℕ
bit_of b x = b / 2 ^ (7 - x % 8) % 2

-- mode 0: attribute at $1800 + (y' div 8) × 32 + x' div 8
abbrev pub cell_address : ℕ → ℕ → ℕ
cell_address y column = 0x1800 + y / 8 * 32 + column

-- mode 6: column c of 64 reads the byte address of column c div 2, plus $2000 for odd c
abbrev pub hires_address : ℕ → ℕ → ℕ
hires_address y c = byte_address y (c / 2) + c % 2 * 0x2000

-- mode 6: attribute 01pppiii, iii from $FF bits 5-3, ppp its complement
abbrev pub hires_attribute : ℕ → ℕ
hires_attribute port = let iii = port / 8 % 8 in 64 + (7 - iii) * 8 + iii

-- LoRes: (y' div 2) × 128 + x' div 2, plus $800 from row 48 on
unfoldable pub lores_address : ℕ → ℕ → ℕ
lores_address row column = cond (leb 48 row) (row * 128 + column + 0x800) (row * 128 + column)
