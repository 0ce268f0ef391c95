-- Rules 3.25 to 3.28 and 9.9: the four ports.
use Rattle.std.specs.Prelude.{ℕ, ◌%◌, List, [], ◌∷◌, Bool, cond, get_or, set, leb, eqb, Ok, Err}
use Rattle.reply.specs.declared.Reply.TheVariants.{NoRegister}
use Rattle.state.specs.declared.State.{State}
use Rattle.state.specs.declared.Answer.{Answer}
use Rattle.state.specs.Answer.{done}
use Rattle.state_bits.specs.Bits.{timex_on}
use Rattle.register_bounds.specs.Bounds.{select_fits}
use Rattle.state.specs.Groups.{ports_with_border, ports_with_timex, ports_with_select, ports_with_plus}
use Rattle.state.specs.With.{with_ports, with_plus}
use Rattle.register_answers.specs.Answers.{Reading, if_fits}
use Rattle.register_answers.specs.Rows.{WriteRow, writes, ReadRow, reads}

-- $FE: the low three bits are the border
abbrev pub border_written : State → ℕ → Answer
border_written s v = done (with_ports s (ports_with_border s.ports (v % 8)))

-- $FF
abbrev pub timex_written : State → ℕ → Answer
timex_written s v = done (with_ports s (ports_with_timex s.ports v))

-- $BF3B: below 128
abbrev pub select_written : State → ℕ → Answer
select_written s v = if_fits (select_fits v) (with_ports s (ports_with_select s.ports v)) s

-- $BF3B: 64 and up is the mode group
abbrev pub mode_group : State → Bool
mode_group s = leb 64 s.ports.select

-- $FF3B in the mode group: bit 0 as ULAplus on
abbrev pub mode_written : State → ℕ → Answer
mode_written s v = done (with_ports s (ports_with_plus s.ports (eqb (v % 2) 1)))

-- $FF3B: a ULAplus register, or the mode
abbrev pub plus_written : State → ℕ → Answer
plus_written s v = cond (mode_group s) (mode_written s v) (done (with_plus s (set s.plus s.ports.select v)))

-- $FF: readable while $08 bit 2 is set
abbrev pub timex_read : State → Reading
timex_read s = cond (timex_on s.ula) (Ok s.ports.timex) (Err NoRegister)

-- $FF3B: a ULAplus register, or ULAplus on; other mode bits read as 0
abbrev pub plus_read : State → Reading
plus_read s = cond (mode_group s) (Ok (cond s.ports.plus 1 0)) (Ok (get_or s.plus s.ports.select 0))

abbrev pub port_writes : List WriteRow
port_writes =
    writes 0x00FE border_written ∷
    writes 0x00FF timex_written ∷
    writes 0xBF3B select_written ∷
    writes 0xFF3B plus_written ∷
    []

-- $FE and $BF3B are write only
abbrev pub port_reads : List ReadRow
port_reads =
    reads 0x00FF timex_read ∷
    reads 0xFF3B plus_read ∷
    []
