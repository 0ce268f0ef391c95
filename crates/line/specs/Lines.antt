-- Rules 1.3, 2.2, 2.3, 2.5, 5.8 and 5.13: a line as 640 dots, from the two banks and the state.
use Rattle.std.specs.Prelude.{ℕ, List, cond}
use Rattle.lists.specs.Tab.{tab}
use Rattle.colour.specs.Bytes.{widened}
use Rattle.state_bits.specs.Bits.{ula_on, tile_second_shown}
use Rattle.state.specs.declared.State.{State}
use Rattle.surface.specs.Dots.{top_dot}
use Rattle.surface.specs.declared.lines.LineNumber.{LineNumber}
use Rattle.ula.specs.Lines.{ula_dot}
use Rattle.tilemap.specs.Dots.{TileDot, tile_dot}
use Rattle.tilemap_setup.specs.Setup.{setup_of, window_of}
use Rattle.line_dots.specs.Compose.{stencil_on, composed}

-- $6B: bit 4 the tilemap palette shown
unfoldable pub tile_palette : State → List ℕ
tile_palette s = cond (tile_second_shown s.tiles) s.tilesecond s.tilefirst

-- dot k of a line of the tilemap
unfoldable pub tile_dot_of : State → List ℕ → LineNumber → ℕ → TileDot
tile_dot_of s bank line =
    tile_dot (window_of s.tiles s.tileclip line) (setup_of s.tiles (ula_on s.ula)) s.tiles.transparent bank line.0

-- dot k before the fallback: a colour, or 512 for transparent
unfoldable pub composed_dot : State → List ℕ → List ℕ → LineNumber → ℕ → ℕ
composed_dot s ula tile line k = composed (stencil_on s.ula s.tiles) (tile_palette s) (ula_dot s ula line k) (tile_dot_of s tile line k)

-- the composed line
unfoldable pub composed_line : State → List ℕ → List ℕ → LineNumber → List ℕ
composed_line s ula tile line = tab (composed_dot s ula tile line) 640

-- dot k; transparent at the end: the fallback, widened as $41
unfoldable pub line_dot : State → List ℕ → List ℕ → LineNumber → ℕ → ℕ
line_dot s ula tile line k = top_dot (composed_dot s ula tile line k) (widened s.ula.fallback)

-- one line as 640 dots
unfoldable pub drawn_line : State → List ℕ → List ℕ → LineNumber → List ℕ
drawn_line s ula tile line = tab (line_dot s ula tile line) 640
