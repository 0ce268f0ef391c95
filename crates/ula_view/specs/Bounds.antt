-- Bounds that the filling of a row rests on.
use Rattle.std.specs.Prelude.{ℕ, ◌<◌, List}
use Rattle.state.specs.Reset.{reset_state}
use Rattle.state.specs.declared.State.{State}
use Rattle.state.specs.declared.Ula.{Ula}
use Rattle.state.specs.declared.Palette.{Palette}
use Rattle.state.specs.declared.Ports.{Ports}
use Rattle.ula_scheme.specs.Bounds.{MaskBounds}
use Rattle.ula_view.specs.declared.views.View.{View}
use Rattle.ula_view.specs.declared.views.UlaLine.{UlaLine}

-- a line of the bank's picture, and a byte
pub record ViewBounds (p : View) : Type 0 where
  pub row : p.row < 192
  pub offset : p.offset < 256

pub record UlaLineBounds (u : UlaLine) : Type 0 where
  pub view : ViewBounds u.view
  pub colours : MaskBounds u.colours

-- the parts of a state that its ULA dots are drawn from, with the palette shown in both places, in a state whose other parts are
-- those of a reset
abbrev pub shown_state : Ula → Palette → Ports → ℕ → List ℕ → List ℕ → List ℕ → State
shown_state u p ports frame clip plus pal = record {
  ula = u;
  tiles = reset_state.tiles;
  palette = p;
  turns = reset_state.turns;
  ports = ports;
  frame = frame;
  ulaclip = clip;
  tileclip = reset_state.tileclip;
  plus = plus;
  ulafirst = pal;
  ulasecond = pal;
  tilefirst = reset_state.tilefirst;
  tilesecond = reset_state.tilesecond;
}
