-- The layers of a line, joined: the composed line, and the fallback over it.
use Prim.Native.Nat.{ℕ}
use mathlib.Core.Path.{◌≡◌, ap, ◌∙◌}
use mathlib.Core.List.{List}
use lib.ListN.{get_or}
use Rattle.lists.specs.Tab.{tab}
use Rattle.lists.proofs.Tab.{tab-ext, get_or-tab}
use Rattle.colour.specs.Bytes.{widened}
use Rattle.state.specs.declared.State.{State}
use Rattle.surface.specs.Dots.{top_dot}
use Rattle.surface.specs.declared.lines.LineNumber.{LineNumber}
use Rattle.ula.specs.Lines.{ula_dot}
use Rattle.line_dots.specs.Compose.{stencil_on, composed, finished}
use Rattle.line.specs.Lines.{tile_palette, tile_dot_of, composed_dot, composed_line, line_dot, drawn_line}

-- the tilemap's dots with the ULA's are the composed line
pub layered-line : (s : State) (line : LineNumber) (ula tile u out : List ℕ) → u ≡ tab (ula_dot s ula line) 640
    → out ≡ tab (λ (k : ℕ). composed (stencil_on s.ula s.tiles) (tile_palette s) (get_or u k 0) (tile_dot_of s tile line k)) 640
    → out ≡ composed_line s ula tile line
unfolding composed_line composed_dot
layered-line s line ula tile u out d e = e ∙ tab-ext _ _ 640 (λ k h. rw (d, get_or-tab (ula_dot s ula line) 640 k h))

pub finished-line : (s : State) (line : LineNumber) (ula tile row out : List ℕ) (fallback : ℕ)
    → out ≡ finished fallback row → row ≡ composed_line s ula tile line → fallback ≡ widened s.ula.fallback → out ≡ drawn_line s ula tile line
unfolding finished composed_line drawn_line line_dot
finished-line s line ula tile row out fallback e er ef =
    e ∙ tab-ext _ _ 640 (λ k h.
    ap (λ (f : ℕ). top_dot (get_or row k 0) f) ef
    ∙ ap (λ (v : ℕ). top_dot v (widened s.ula.fallback)) (ap (λ (r : List ℕ). get_or r k 0) er ∙ get_or-tab (composed_dot s ula tile line) 640 k h))
