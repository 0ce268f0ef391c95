-- The sixteen colours of a Spectrum, and the states in which the ULA palette has them.
use Rattle.std.specs.Prelude.{ℕ, zero, suc, ◌%◌, List, [], ◌∷◌, get_or}
use Rattle.state.specs.declared.State.{State}
use Rattle.state.specs.Reset.{reset_state}
use Rattle.registers.specs.Registers.{write_register}

-- the state after a write of a register
abbrev pub after_write : State → ℕ → ℕ → State
after_write s n v = (write_register s n v).state

-- the sixteen as eight-bit colours: black, blue, red, magenta, green, cyan, yellow, white, and bright
abbrev pub zx_colours : List ℕ
zx_colours =
    0x00 ∷ 0x02 ∷ 0xA0 ∷ 0xA2 ∷ 0x14 ∷ 0x16 ∷ 0xB4 ∷ 0xB6 ∷ 0x00 ∷ 0x03 ∷ 0xE0 ∷ 0xE3 ∷ 0x1C ∷ 0x1F ∷ 0xFC ∷ 0xFF ∷ []

abbrev pub zx_colour : ℕ → ℕ
zx_colour i = get_or zx_colours (i % 16) 0

-- $41: n colours from the index on
unfoldable pub ula_painted : State → ℕ → State
ula_painted s zero = s
ula_painted s (suc n) = after_write (ula_painted s n) 0x41 (zx_colour n)

-- $4A as $14 is after a reset, so that bright magenta shows though it is transparent; then the inks and the papers
unfoldable pub standard_state : State
standard_state = ula_painted (after_write reset_state 0x4A 0xE3) 32
