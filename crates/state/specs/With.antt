-- A state with one group or one array of it replaced: every effect on a state is made of these.
use Rattle.std.specs.Prelude.{ℕ, List}
use Rattle.state.specs.declared.State.{State}
use Rattle.state.specs.declared.Ula.{Ula}
use Rattle.state.specs.declared.Tiles.{Tiles}
use Rattle.state.specs.declared.Palette.{Palette}
use Rattle.state.specs.declared.Turns.{Turns}
use Rattle.state.specs.declared.Ports.{Ports}

-- the registers and the four palettes put together
abbrev pub state_of : Ula → Tiles → Palette → Turns → Ports → ℕ → List ℕ → List ℕ → List ℕ → List ℕ → List ℕ → List ℕ → List ℕ → State
state_of u t p r o f a b c d e g h = record {
  ula = u;
  tiles = t;
  palette = p;
  turns = r;
  ports = o;
  frame = f;
  ulaclip = a;
  tileclip = b;
  plus = c;
  ulafirst = d;
  ulasecond = e;
  tilefirst = g;
  tilesecond = h;
}

abbrev pub with_ula : State → Ula → State
with_ula s v = state_of v s.tiles s.palette s.turns s.ports s.frame s.ulaclip s.tileclip s.plus s.ulafirst s.ulasecond s.tilefirst s.tilesecond

abbrev pub with_tiles : State → Tiles → State
with_tiles s v = state_of s.ula v s.palette s.turns s.ports s.frame s.ulaclip s.tileclip s.plus s.ulafirst s.ulasecond s.tilefirst s.tilesecond

abbrev pub with_palette : State → Palette → State
with_palette s v = state_of s.ula s.tiles v s.turns s.ports s.frame s.ulaclip s.tileclip s.plus s.ulafirst s.ulasecond s.tilefirst s.tilesecond

abbrev pub with_turns : State → Turns → State
with_turns s v = state_of s.ula s.tiles s.palette v s.ports s.frame s.ulaclip s.tileclip s.plus s.ulafirst s.ulasecond s.tilefirst s.tilesecond

abbrev pub with_ports : State → Ports → State
with_ports s v = state_of s.ula s.tiles s.palette s.turns v s.frame s.ulaclip s.tileclip s.plus s.ulafirst s.ulasecond s.tilefirst s.tilesecond

abbrev pub with_frame : State → ℕ → State
with_frame s v = state_of s.ula s.tiles s.palette s.turns s.ports v s.ulaclip s.tileclip s.plus s.ulafirst s.ulasecond s.tilefirst s.tilesecond

abbrev pub with_ula_clip : State → List ℕ → State
with_ula_clip s v = state_of s.ula s.tiles s.palette s.turns s.ports s.frame v s.tileclip s.plus s.ulafirst s.ulasecond s.tilefirst s.tilesecond

abbrev pub with_tile_clip : State → List ℕ → State
with_tile_clip s v = state_of s.ula s.tiles s.palette s.turns s.ports s.frame s.ulaclip v s.plus s.ulafirst s.ulasecond s.tilefirst s.tilesecond

abbrev pub with_plus : State → List ℕ → State
with_plus s v = state_of s.ula s.tiles s.palette s.turns s.ports s.frame s.ulaclip s.tileclip v s.ulafirst s.ulasecond s.tilefirst s.tilesecond

abbrev pub with_ula_first : State → List ℕ → State
with_ula_first s v = state_of s.ula s.tiles s.palette s.turns s.ports s.frame s.ulaclip s.tileclip s.plus v s.ulasecond s.tilefirst s.tilesecond

abbrev pub with_ula_second : State → List ℕ → State
with_ula_second s v = state_of s.ula s.tiles s.palette s.turns s.ports s.frame s.ulaclip s.tileclip s.plus s.ulafirst v s.tilefirst s.tilesecond

abbrev pub with_tile_first : State → List ℕ → State
with_tile_first s v = state_of s.ula s.tiles s.palette s.turns s.ports s.frame s.ulaclip s.tileclip s.plus s.ulafirst s.ulasecond v s.tilesecond

abbrev pub with_tile_second : State → List ℕ → State
with_tile_second s v = state_of s.ula s.tiles s.palette s.turns s.ports s.frame s.ulaclip s.tileclip s.plus s.ulafirst s.ulasecond s.tilefirst v
