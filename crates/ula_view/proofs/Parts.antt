-- What a line shows of the state, put together from its parts.
use Prim.Native.Nat.{ℕ}
use mathlib.Core.Path.{◌≡◌}
use mathlib.Core.List.{List}
use mathlib.Core.Bool.{Bool}
use Rattle.state_bits.specs.Bits.{ula_on}
use Rattle.state.specs.declared.State.{State}
use Rattle.surface.specs.Lines.{in_display, display_line}
use Rattle.surface.specs.declared.lines.LineNumber.{LineNumber}
use Rattle.ula_scheme.specs.Schemes.{colours_of}
use Rattle.ula_scheme.specs.declared.schemes.Colours.{Colours}
use Rattle.ula_view.specs.Views.{view_of, border_of, ula_line}
use Rattle.ula_view.specs.declared.views.View.{View}
use Rattle.ula_view.specs.declared.views.UlaLine.{UlaLine}

abbrev assembled : Bool → Bool → ℕ → View → Colours → UlaLine
assembled on display border view colours = record { on = on; display = display; border = border; view = view; colours = colours }

pub line_of : (s : State) (pal : List ℕ) (line : LineNumber) (on display : Bool) (border : ℕ) (view : View) (colours : Colours)
    → on ≡ ula_on s.ula → display ≡ in_display line
    → border ≡ border_of view colours pal s.plus s.ports.border → view ≡ view_of s.ula s.ports s.ulaclip (display_line line)
    → colours ≡ colours_of s.ula s.palette s.ports s.frame → assembled on display border view colours ≡ ula_line s pal line
unfolding ula_line
line_of s pal line on display border view colours o d b p c =
    cc
