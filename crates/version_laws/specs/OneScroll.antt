-- Rule 7.12: a line as it was drawn while there was one scroll, $32 and $33 in every mode. All but the scroll is made of the definitions that `line`
-- goes by.
use Rattle.std.specs.Prelude.{ℕ, List}
use Rattle.lists.specs.Tab.{tab}
use Rattle.state.specs.declared.State.{State}
use Rattle.state.specs.declared.Ula.{Ula}
use Rattle.state.specs.declared.Ports.{Ports}
use Rattle.surface.specs.Lines.{display_line}
use Rattle.surface.specs.Dots.{top_dot}
use Rattle.surface.specs.declared.lines.LineNumber.{LineNumber}
use Rattle.colour.specs.Bytes.{widened}
use Rattle.ula_scroll.specs.Scrolls.{line_read}
use Rattle.ula_view.specs.Views.{ula_palette, view_of, ula_line}
use Rattle.ula_view.specs.declared.views.View.{View}
use Rattle.ula_view.specs.declared.views.UlaLine.{UlaLine}
use Rattle.ula.specs.Lines.{row_dot}
use Rattle.line_dots.specs.Compose.{composed, stencil_on}
use Rattle.line.specs.Lines.{tile_palette, tile_dot_of}

-- line y of the display, moved by $32 and $33
abbrev pub one_scroll_view : Ula → Ports → List ℕ → ℕ → View
one_scroll_view u ports clip y =
    let p = view_of u ports clip y in
    record {
      mode = p.mode;
      row = line_read y u.loresy;
      offset = u.loresx;
      attribute = p.attribute;
      visible = p.visible;
      left = p.left;
      right = p.right;
    }

abbrev pub one_scroll_line : State → List ℕ → LineNumber → UlaLine
one_scroll_line s pal line =
    let u = ula_line s pal line in
    record {
      on = u.on;
      display = u.display;
      border = u.border;
      view = one_scroll_view s.ula s.ports s.ulaclip (display_line line);
      colours = u.colours;
    }

-- dot k of the ULA, and of the finished line
abbrev pub one_scroll_dot : State → List ℕ → List ℕ → LineNumber → ℕ → ℕ
one_scroll_dot s ula tile line k =
    let u = row_dot (one_scroll_line s (ula_palette s) line) (ula_palette s) s.plus ula k in
    top_dot (composed (stencil_on s.ula s.tiles) (tile_palette s) u (tile_dot_of s tile line k)) (widened s.ula.fallback)

-- a line as 640 dots
unfoldable pub one_scroll_drawn : State → List ℕ → List ℕ → LineNumber → List ℕ
one_scroll_drawn s ula tile line = tab (one_scroll_dot s ula tile line) 640
