-- What is known of a lent record once it is judged, and a line whose tile dots are laid; no part of what a drawing is.
use Rattle.std.specs.Prelude.{◌≡◌, true, List, ℕ, length, get_or}
use Rattle.lists.specs.Tab.{tab}
use Rattle.state.specs.declared.State.{State}
use Rattle.state.specs.Lawful.{lawful_state}
use Rattle.surface.specs.declared.lines.LineNumber.{LineNumber}
use Rattle.line_dots.specs.Compose.{composed, stencil_on}
use Rattle.line.specs.Lines.{tile_palette, tile_dot_of}
use Rattle.record_layout.specs.declared.Version.{Version}
use Rattle.record_layout.specs.Record.{record_length, state_as}

-- as many bytes as a record of its version has, and a lawful state in them
pub record RecordBounds (v : Version) (b : List ℕ) : Type 0 where
  pub long : length b ≡ record_length v
  pub lawful : lawful_state (state_as v b) ≡ true

-- the tile dots of a state composed with the ULA's in a row
abbrev pub tiles_laid : State → List ℕ → LineNumber → List ℕ → List ℕ
tiles_laid s bank line row =
    tab (λ (k : ℕ). composed (stencil_on s.ula s.tiles) (tile_palette s) (get_or row k 0) (tile_dot_of s bank line k)) 640
