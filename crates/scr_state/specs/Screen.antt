-- Rules 14.6 to 14.8: a state made to show a screen file.
use Rattle.std.specs.Prelude.{ℕ, ◌+◌, ◌*◌, ◌/◌, ◌%◌, List, Bool}
use Rattle.state.specs.declared.State.{State}
use Rattle.state.specs.declared.Ula.{Ula}
use Rattle.state.specs.declared.Palette.{Palette}
use Rattle.state.specs.declared.Ports.{Ports}
use Rattle.state.specs.Groups.{ula_with_layers, ula_with_peripheral, palette_with_control, ports_with_timex, ports_with_plus}
use Rattle.state.specs.With.{with_ula, with_palette, with_ports, with_plus}

-- $15 with bit 7 clear
abbrev pub lores_cleared : ℕ → ℕ
lores_cleared v = v % 128

-- $08 with bit 2 set
abbrev pub timex_set : ℕ → ℕ
timex_set v = v / 8 * 8 + 4 + v % 4

-- $43 with bit 0 clear
abbrev pub next_cleared : ℕ → ℕ
next_cleared v = v / 2 * 2

-- LoRes off, Timex modes allowed
abbrev pub ula_for_screen : Ula → Ula
ula_for_screen u = ula_with_peripheral (ula_with_layers u (lores_cleared u.layers)) (timex_set u.peripheral)

-- ULANext off; a held half stays
abbrev pub palette_for_screen : Palette → Palette
palette_for_screen p = palette_with_control p (next_cleared p.control)

-- $FF and the ULAplus switch
abbrev pub ports_for_screen : Ports → ℕ → Bool → Ports
ports_for_screen p port plus = ports_with_plus (ports_with_timex p port) plus

-- a state with this byte of port $FF, ULAplus switch and ULAplus registers; all else is its own
abbrev pub with_screen : State → ℕ → Bool → List ℕ → State
with_screen s port plus registers =
    with_plus
    (with_ports (with_palette (with_ula s (ula_for_screen s.ula)) (palette_for_screen s.palette)) (ports_for_screen s.ports port plus))
    registers
