-- The states that are drawn: the reset state after writes of registers and ports.
use Rattle.std.specs.Prelude.{ℕ, zero, suc, ◌+◌, ◌*◌, List, cond, get_or, ltb}
use Rattle.state.specs.declared.State.{State}
use Rattle.state.specs.Reset.{reset_state}
use Rattle.state.specs.Groups.{ports_with_border}
use Rattle.state.specs.With.{with_ports}
use Rattle.registers.specs.Registers.{write_register, write_port}

-- colour 151 at index 16, what an empty screen and its border show
unfoldable pub plain_state : State
plain_state = (write_register (write_register reset_state 0x40 16).state 0x41 0x4B).state

-- a write by its number, high byte first: of a register below $FE, of a port from there on
unfoldable pub entry_written : State → ℕ → ℕ → ℕ → State
entry_written s high low v = cond (ltb (high * 256 + low) 0xFE) (write_register s low v).state (write_port s (high * 256 + low) v).state

-- the plain state after the first n writes, three bytes each: a number and a value
unfoldable pub after_writes : List ℕ → ℕ → State
after_writes ws zero = plain_state
after_writes ws (suc n) = entry_written (after_writes ws n) (get_or ws (n * 3) 0) (get_or ws (n * 3 + 1) 0) (get_or ws (n * 3 + 2) 0)

-- a state with a border
abbrev pub border_state : State → ℕ → State
border_state s b = with_ports s (ports_with_border s.ports b)
