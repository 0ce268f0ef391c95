-- A state taken apart into its registers and its four palettes, and put together again, so that contracts on parts cite the definitions on
-- states.
use Rattle.std.specs.Prelude.{[]}
use Rattle.state.specs.declared.State.{State}
use Rattle.state.specs.declared.Answer.{Answer}
use Rattle.state.specs.With.{state_of}
use Rattle.register_parts.specs.declared.Palettes.{Palettes}
use Rattle.register_parts.specs.declared.Registers.{Registers}
use Rattle.register_parts.specs.declared.Written.{Written}

abbrev pub registers_of : State → Registers
registers_of s = record {
  ula = s.ula;
  tiles = s.tiles;
  palette = s.palette;
  turns = s.turns;
  ports = s.ports;
  frame = s.frame;
  ulaclip = s.ulaclip;
  tileclip = s.tileclip;
  plus = s.plus;
}

abbrev pub palettes_of : State → Palettes
palettes_of s = record { ulafirst = s.ulafirst; ulasecond = s.ulasecond; tilefirst = s.tilefirst; tilesecond = s.tilesecond }

abbrev pub state_with : Registers → Palettes → State
state_with g p =
    state_of g.ula g.tiles g.palette g.turns g.ports g.frame g.ulaclip g.tileclip g.plus p.ulafirst p.ulasecond p.tilefirst p.tilesecond

abbrev pub no_palettes : Palettes
no_palettes = record { ulafirst = []; ulasecond = []; tilefirst = []; tilesecond = [] }

-- a state of registers alone, for effects that touch no palette
abbrev pub bare : Registers → State
bare g = state_with g no_palettes

abbrev pub written_of : Answer → Written
written_of a = record { reply = a.reply; registers = registers_of a.state }

abbrev pub answer_with : Written → Palettes → Answer
answer_with w p = record { reply = w.reply; state = state_with w.registers p }
