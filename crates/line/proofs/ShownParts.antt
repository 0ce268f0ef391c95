-- The line of a state is the line of what it shows of it: of any state with these parts and palettes. With the tilemap off the line is
-- the ULA's dots, whatever the tilemap's palettes hold.
use Prim.Native.Nat.{ℕ}
use mathlib.Core.Path.{◌≡◌, refl, sym, ap, ◌∙◌}
use mathlib.Core.List.{List}
use mathlib.Core.Bool.{Bool, false, cond, ◌&&◌}
use lib.ListN.{get_or}
use Rattle.lists.specs.Tab.{tab}
use Rattle.lists.proofs.Tab.{tab-ext, length-tab}
use Rattle.lists.proofs.Cond.{right-false}
use Rattle.state_bits.specs.Bits.{ula_on, ula_second_shown, tilemap_on, tile_second_shown, stencil_set}
use Rattle.state.specs.declared.State.{State}
use Rattle.surface.specs.Dots.{inside}
use Rattle.surface.specs.declared.lines.LineNumber.{LineNumber}
use Rattle.ula_view.specs.Views.{ula_palette}
use Rattle.ula.specs.Lines.{ula_dot}
use Rattle.ula_view.specs.Bounds.{shown_state}
use Rattle.ula.proofs.Parts.{twice, shown-dots}
use Rattle.tilemap.specs.Dots.{tile_dot}
use Rattle.tilemap_setup.specs.Setup.{setup_of, window_of}
use Rattle.line_dots.specs.Compose.{composed, stencil_on}
use Rattle.line.specs.Lines.{tile_palette, tile_dot_of, composed_dot, composed_line}
use Rattle.line.specs.Shown.{shown_of, state_shown}
use Rattle.line.specs.declared.parts.Shown.{Shown}
use Rattle.line_tiles.proofs.Laid.{layered-bare}
use Rattle.line.proofs.Layers.{layered-line}

module _ (ula tile : List ℕ) (line : LineNumber) where
  -- with the tilemap off
  pub line-without : (s : State) → tilemap_on s.tiles ≡ false → tab (ula_dot s ula line) 640 ≡ composed_line s ula tile line
  unfolding window_of tile_dot_of
  line-without s o =
      let u = tab (ula_dot s ula line) 640 in
      let t = s.tiles in
      let clip = s.tileclip in
      let shut = ap (λ (b : Bool). b && inside line.0 (get_or clip 2 0) (get_or clip 3 0)) o in
      let plain = right-false (stencil_set s.ula && ula_on s.ula) o in
      layered-line s line ula tile u u refl
      (layered-bare (setup_of t (ula_on s.ula)) (window_of t clip line) t.transparent (stencil_on s.ula t) (tile_palette s) tile u line.0
      (length-tab (ula_dot s ula line) 640) shut plain)

  module _ (v : Shown) (ulapal tilepal : List ℕ) where
    -- what a line shows of a state is enough for the ULA's dots
    abbrev parts : State
    parts = shown_state v.ula v.palette v.ports v.frame v.ulaclip v.plus ulapal

    shown-ula : ula_dot parts ula line ≡ ula_dot (state_shown v ulapal tilepal) ula line
    unfolding ula_palette
    shown-ula = shown-dots (state_shown v ulapal tilepal) ulapal ula line (sym (twice ulapal (ula_second_shown v.palette)))

    pub laid-shown : (u out : List ℕ) → u ≡ tab (ula_dot parts ula line) 640
        → out ≡ tab (λ (k : ℕ). composed (stencil_on v.ula v.tiles) tilepal (get_or u k 0)
        (tile_dot (window_of v.tiles v.tileclip line) (setup_of v.tiles (ula_on v.ula)) v.tiles.transparent tile line.0 k)) 640
        → out ≡ composed_line (state_shown v ulapal tilepal) ula tile line
    unfolding tile_dot_of tile_palette
    laid-shown u out eu e =
        let s = state_shown v ulapal tilepal in
        layered-line s line ula tile u out (eu ∙ ap (λ (f : ℕ → ℕ). tab f 640) shown-ula)
        (e ∙ ap (λ (p : List ℕ). tab (λ (k : ℕ). composed (stencil_on v.ula v.tiles) p (get_or u k 0) (tile_dot_of s tile line k)) 640)
        (sym (twice tilepal (tile_second_shown v.tiles))))

    pub bare-shown : (u : List ℕ) → u ≡ tab (ula_dot parts ula line) 640 → tilemap_on v.tiles ≡ false → u ≡ composed_line (state_shown v ulapal tilepal) ula tile line
    bare-shown u e o = e ∙ ap (λ (f : ℕ → ℕ). tab f 640) shown-ula ∙ line-without (state_shown v ulapal tilepal) o

  module _ (s : State) (ulapal tilepal : List ℕ) (eu : ulapal ≡ ula_palette s) where
    abbrev seen : State
    seen = state_shown (shown_of s) ulapal tilepal

    same-ula : ula_dot seen ula line ≡ ula_dot s ula line
    same-ula = sym (shown-ula (shown_of s) ulapal tilepal) ∙ shown-dots s ulapal ula line eu

    same-tiles : tilepal ≡ tile_palette s → tile_palette seen ≡ tile_palette s
    unfolding tile_palette
    same-tiles et = twice tilepal (tile_second_shown s.tiles) ∙ et

    -- the line of a state is the line of what it shows
    pub same-composed : tilepal ≡ tile_palette s → composed_line seen ula tile line ≡ composed_line s ula tile line
    unfolding composed_line composed_dot tile_dot_of
    same-composed et =
        tab-ext _ _ 640 (λ k h.
        ap (λ (p : List ℕ). composed (stencil_on s.ula s.tiles) p (ula_dot seen ula line k) (tile_dot_of s tile line k)) (same-tiles et)
        ∙ ap (λ (f : ℕ → ℕ). composed (stencil_on s.ula s.tiles) (tile_palette s) (f k) (tile_dot_of s tile line k)) same-ula)

  -- with the palettes that it chooses
  pub chosen-line : (s : State) (v : Shown) → v ≡ shown_of s
      → composed_line (state_shown v (cond (ula_second_shown v.palette) s.ulasecond s.ulafirst) (cond (tile_second_shown v.tiles) s.tilesecond s.tilefirst)) ula tile line
      ≡ composed_line s ula tile line
  unfolding ula_palette tile_palette
  chosen-line s v e =
      ap (λ (w : Shown). composed_line (state_shown w (cond (ula_second_shown w.palette) s.ulasecond s.ulafirst) (cond (tile_second_shown w.tiles) s.tilesecond s.tilefirst)) ula tile line) e
      ∙ same-composed s (ula_palette s) (tile_palette s) refl refl
