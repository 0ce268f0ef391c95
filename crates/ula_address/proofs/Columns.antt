-- A row's bytes follow each other, in each mode: what filling a row by cells rests on.
use Prim.Native.Nat.{ℕ, ◌+◌}
use mathlib.Core.Path.{◌≡◌}
use native.Mathlib.Omega.{arith}
use Rattle.ula_address.specs.Addresses.{bitmap_address, attribute_address}
use Rattle.ula_mode.specs.declared.modes.Mode.{Mode}
use Rattle.ula_mode.specs.declared.modes.Mode.TheVariants.{Lores, Standard, Second, HighColour, HighResolution, Missing}

-- a column's byte, from the row's first
pub bitmap-column : (m : Mode) (y column : ℕ) → bitmap_address m y column ≡ bitmap_address m y 0 + column
bitmap-column Lores y column = omega arith
bitmap-column Standard y column = omega arith
bitmap-column Second y column = omega arith
bitmap-column HighColour y column = omega arith
bitmap-column HighResolution y column = omega arith
bitmap-column Missing y column = omega arith

pub attribute-column : (m : Mode) (y column : ℕ) → attribute_address m y column ≡ attribute_address m y 0 + column
attribute-column Lores y column = omega arith
attribute-column Standard y column = omega arith
attribute-column Second y column = omega arith
attribute-column HighColour y column = omega arith
attribute-column HighResolution y column = omega arith
attribute-column Missing y column = omega arith
