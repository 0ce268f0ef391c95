-- Rules 3.17, 4.3, 4.19 and 4.21: what of the state a line of the display shows.
use Rattle.std.specs.Prelude.{ℕ, List, cond, get_or}
use Rattle.state_bits.specs.Bits.{ula_on, ula_second_shown}
use Rattle.state.specs.declared.State.{State}
use Rattle.state.specs.declared.Ula.{Ula}
use Rattle.state.specs.declared.Ports.{Ports}
use Rattle.surface.specs.Lines.{in_display, display_line}
use Rattle.surface.specs.Dots.{inside}
use Rattle.surface.specs.declared.lines.LineNumber.{LineNumber}
use Rattle.ula_mode.specs.Modes.{mode_of, is_hires}
use Rattle.ula_scroll.specs.Scrolls.{scroll_of, line_read}
use Rattle.ula_byte.specs.Bytes.{hires_attribute}
use Rattle.ula_scheme.specs.Schemes.{colours_of}
use Rattle.ula_attribute.specs.Colours.{border_dot}
use Rattle.ula_scheme.specs.declared.schemes.Colours.{Colours}
use Rattle.ula_view.specs.declared.views.View.{View}
use Rattle.ula_view.specs.declared.views.UlaLine.{UlaLine}

-- $43: bit 1 the ULA palette shown
unfoldable pub ula_palette : State → List ℕ
ula_palette s = cond (ula_second_shown s.palette) s.ulasecond s.ulafirst

-- line y of the display: its mode, y' = (y + the mode's offset) mod 192, mode 6's attribute, and the clip X1, X2, Y1, Y2,
-- in pixels and lines of the display
unfoldable pub view_of : Ula → Ports → List ℕ → ℕ → View
view_of u ports clip y = record {
  mode = mode_of u ports;
  row = line_read y (scroll_of (mode_of u ports) u).y;
  offset = (scroll_of (mode_of u ports) u).x;
  attribute = hires_attribute ports.timex;
  visible = inside y (get_or clip 2 0) (get_or clip 3 0);
  left = get_or clip 0 0;
  right = get_or clip 1 0;
}

-- the border, which in mode 6 is the paper
unfoldable pub border_of : View → Colours → List ℕ → List ℕ → ℕ → ℕ
border_of p l pal plus border = border_dot l pal plus (is_hires p.mode) p.attribute border

-- the ULA is on or off; the line runs through the display or only through the border
unfoldable pub ula_line : State → List ℕ → LineNumber → UlaLine
ula_line s pal line =
    let view = view_of s.ula s.ports s.ulaclip (display_line line) in
    let colours = colours_of s.ula s.palette s.ports s.frame in
    record {
      on = ula_on s.ula;
      display = in_display line;
      border = border_of view colours pal s.plus s.ports.border;
      view = view;
      colours = colours;
    }
