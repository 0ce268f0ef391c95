-- Rules 4.6 to 4.8: the addresses of each mode, by row y' and column x' div 8.
use Rattle.std.specs.Prelude.{ℕ, ◌+◌}
use Rattle.ula_mode.specs.declared.modes.Mode.{Mode}
use Rattle.ula_mode.specs.declared.modes.Mode.TheVariants.{Lores, Standard, Second, HighColour, HighResolution, Missing}
use Rattle.ula_byte.specs.Bytes.{byte_address, cell_address}

-- mode 0 at the byte address; mode 1 $2000 further; mode 2 as mode 0. Mode 6 and LoRes have addresses of their own
abbrev pub bitmap_address : Mode → ℕ → ℕ → ℕ
bitmap_address Lores y column = byte_address y column
bitmap_address Standard y column = byte_address y column
bitmap_address Second y column = byte_address y column + 0x2000
bitmap_address HighColour y column = byte_address y column
bitmap_address HighResolution y column = byte_address y column
bitmap_address Missing y column = byte_address y column

-- mode 1 $2000 further than mode 0; mode 2 at byte address + $2000. Mode 6 and LoRes have no attribute in the bank
abbrev pub attribute_address : Mode → ℕ → ℕ → ℕ
attribute_address Lores y column = cell_address y column
attribute_address Standard y column = cell_address y column
attribute_address Second y column = cell_address y column + 0x2000
attribute_address HighColour y column = byte_address y column + 0x2000
attribute_address HighResolution y column = cell_address y column
attribute_address Missing y column = cell_address y column
