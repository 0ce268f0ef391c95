-- Rules 2.2, 2.4, 4.21 and 4.22: the 640 ULA dots of a line.
use Rattle.std.specs.Prelude.{ℕ, ◌-◌, ◌/◌, List, Bool, cond, ◌&&◌}
use Rattle.state.specs.declared.State.{State}
use Rattle.surface.specs.Dots.{inside}
use Rattle.surface.specs.declared.lines.LineNumber.{LineNumber}
use Rattle.ula_view.specs.Views.{ula_palette, ula_line}
use Rattle.ula_view.specs.declared.views.UlaLine.{UlaLine}
use Rattle.ula_display.specs.Display.{display_dot}

-- each 320-wide pixel is two dots; the ULA display is pixels 32..287
abbrev pub in_dots : ℕ → Bool
in_dots k = inside (k / 2) 32 287

-- dot k of a line: transparent when the ULA is off; the rest of the display's surroundings is border
unfoldable pub row_dot : UlaLine → List ℕ → List ℕ → List ℕ → ℕ → ℕ
row_dot u pal plus bank k =
    cond u.on (cond (u.display && in_dots k) (display_dot u.view u.colours pal plus bank (k - 64)) u.border) 512

-- dot k of a line of a state
unfoldable pub ula_dot : State → List ℕ → LineNumber → ℕ → ℕ
ula_dot s bank line = row_dot (ula_line s (ula_palette s) line) (ula_palette s) s.plus bank
