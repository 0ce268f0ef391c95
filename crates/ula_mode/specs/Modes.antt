-- Rules 4.1, 4.2, 9.5 and 12.2: the mode.
use Rattle.std.specs.Prelude.{ℕ, ◌%◌, Bool, true, false, cond, eqb}
use Rattle.state_bits.specs.Bits.{lores_on, timex_on}
use Rattle.state.specs.declared.Ula.{Ula}
use Rattle.state.specs.declared.Ports.{Ports}
use Rattle.ula_mode.specs.declared.modes.Mode.{Mode}
use Rattle.ula_mode.specs.declared.modes.Mode.TheVariants.{Lores, Standard, Second, HighColour, HighResolution, Missing}

-- modes 0, 1, 2 and 6; Timex values 3, 4, 5 and 7 are no mode
unfoldable pub timex_mode : ℕ → Mode
timex_mode v = cond (eqb v 0) Standard (cond (eqb v 1) Second (cond (eqb v 2) HighColour (cond (eqb v 6) HighResolution Missing)))

unfoldable pub mode_of : Ula → Ports → Mode
mode_of u ports = cond (lores_on u) Lores (cond (timex_on u) (timex_mode (ports.timex % 8)) Standard)

abbrev pub is_lores : Mode → Bool
is_lores Lores = true
is_lores Standard = false
is_lores Second = false
is_lores HighColour = false
is_lores HighResolution = false
is_lores Missing = false

-- mode 6, of 512 dots
abbrev pub is_hires : Mode → Bool
is_hires Lores = false
is_hires Standard = false
is_hires Second = false
is_hires HighColour = false
is_hires HighResolution = true
is_hires Missing = false

-- LoRes off, no such mode
abbrev pub is_missing : Mode → Bool
is_missing Lores = false
is_missing Standard = false
is_missing Second = false
is_missing HighColour = false
is_missing HighResolution = false
is_missing Missing = true
