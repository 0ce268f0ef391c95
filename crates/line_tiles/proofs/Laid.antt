-- The tile dots of a line, read from the row of shades, over and under the ULA's.
use Prim.Native.Nat.{ℕ, ◌+◌, ◌/◌, ◌%◌, ◌<◌}
use mathlib.Core.Path.{◌≡◌, refl, sym, ap, ◌∙◌}
use mathlib.Core.List.{List, ◌++◌}
use mathlib.Core.Bool.{Bool, true, false, cond, not, ◌||◌}
use native.Mathlib.Omega.{arith}
use lib.ListN.{get_or, length}
use lib.Dec.{eqb}
use Rattle.lists.specs.Tab.{tab}
use Rattle.lists.proofs.Tab.{tab-ext, tab-entries, get_or-tab}
use Rattle.state_bits.specs.Bits.{width_of, ula_on}
use Rattle.state.specs.Lawful.{all_colours}
use Rattle.state.specs.declared.Ula.{Ula}
use Rattle.state.specs.declared.Tiles.{Tiles}
use Rattle.surface.specs.Dots.{inside, clipped, top_dot}
use Rattle.surface.specs.declared.lines.LineNumber.{LineNumber}
use Rattle.tilemap_entries.specs.Entries.{tile_entry, ula_above}
use Rattle.tilemap_entries.specs.Bounds.{SetupBounds}
use Rattle.tilemap_entries.specs.declared.entries.TileSetup.{TileSetup}
use Rattle.tilemap_rule.specs.Index.{tile_index}
use Rattle.tilemap_rule.proofs.Within.{index_below}
use Rattle.tilemap_setup.specs.Setup.{window_of, setup_of}
use Rattle.tilemap_setup.specs.declared.setup.Window.{Window}
use Rattle.tilemap.specs.Dots.{TileDot, clear, shows, across_of, tile_dot}
use Rattle.tilemap.specs.Shades.{tile_row}
use Rattle.tilemap.proofs.Rows.{row_at}
use Rattle.line_dots.specs.Compose.{tile_colour, stencil_on, stencilled, composed}
use Rattle.line_dots.specs.Shades.{shades_of, shade_over}
use Rattle.line_dots.proofs.Shaded.{shade-composed}

-- a dot's place in the row of shades
across-within : (columns80 : Bool) (k : ℕ) → k < 640 → across_of columns80 k < width_of columns80
across-within true k h = omega arith
across-within false k h = omega arith

-- the three steps of composing a row
pub composed-row : (stencil : Bool) (row old dots cut out : List ℕ) (columns80 : Bool) (skew left right : ℕ)
    → dots ≡ tab (λ (k : ℕ). get_or row (skew + across_of columns80 k) 0) 640 → cut ≡ tab (λ (k : ℕ). clipped (k / 2) left right (get_or dots k 0)) 640
    → out ≡ tab (λ (k : ℕ). shade_over stencil (get_or old k 0) (get_or cut k 0)) 640
    → out ≡ tab (λ (k : ℕ). shade_over stencil (get_or old k 0) (clipped (k / 2) left right (get_or row (skew + across_of columns80 k) 0))) 640
composed-row stencil row old dots cut out columns80 skew left right d c e =
    e ∙ tab-ext _ _ 640 (λ k h.
    ap (shade_over stencil (get_or old k 0))
    (ap (λ (l : List ℕ). get_or l k 0) c ∙ get_or-tab (λ (j : ℕ). clipped (j / 2) left right (get_or dots j 0)) 640 k h
    ∙ ap (clipped (k / 2) left right) (ap (λ (l : List ℕ). get_or l k 0) d ∙ get_or-tab (λ (j : ℕ). get_or row (skew + across_of columns80 j) 0) 640 k h)))

-- where no tile shows, the ULA's dot stays, and nothing is left of it under a stencil
bare : (pal : List ℕ) (u : ℕ) → u ≡ composed false pal u clear
unfolding composed tile_colour top_dot
bare pal u = refl

none_left : (b : Bool) (x : ℕ) → 512 ≡ cond (b || true) 512 x
none_left true x = refl
none_left false x = refl

stencilled-bare : (pal : List ℕ) (u : ℕ) → 512 ≡ composed true pal u clear
unfolding composed tile_colour stencilled
stencilled-bare pal u = none_left (eqb u 512) _

module _ (t : TileSetup) (w : Window) (transparent : ℕ) (stencil : Bool) (pal bank out : List ℕ) (y : ℕ) where
  abbrev laid : ℕ → ℕ
  laid k = composed stencil pal (get_or out k 0) (tile_dot w t transparent bank y k)

  pub layered-on : (row rest shades : List ℕ) → w.on ≡ true → SetupBounds t → all_colours pal ≡ true → ((i : ℕ) → get_or bank i 0 < 256)
      → shades ≡ shades_of pal transparent → row ≡ tile_row t shades bank y ++ rest
      → tab (λ (k : ℕ). shade_over stencil (get_or out k 0) (clipped (k / 2) w.left w.right (get_or row (t.x % 8 + across_of t.columns80 k) 0))) 640
      ≡ tab laid 640
  unfolding tile_dot ula_above
  layered-on row rest shades o l a f s q =
      let e : row ≡ tile_row t (shades_of pal transparent) bank y ++ rest = q ∙ ap (λ (v : List ℕ). tile_row t v bank y ++ rest) s in
      tab-ext _ _ 640 (λ k h.
      let u = get_or out k 0 in
      let x = across_of t.columns80 k in
      let index = tile_index t bank x y in
      let mark = (tile_entry t bank x y).high % 2 in
      let dot : Bool → TileDot = λ on. cond (not on || eqb (index % 16) transparent || not (inside (k / 2) w.left w.right)) clear (shows index (eqb mark 1)) in
      ap (λ (v : ℕ). shade_over stencil u (clipped (k / 2) w.left w.right v))
      (ap (λ (r : List ℕ). get_or r (t.x % 8 + x) 0) e ∙ row_at t (shades_of pal transparent) bank y rest x (across-within t.columns80 k h))
      ∙ shade-composed stencil pal u transparent (k / 2) w.left w.right index mark a (index_below t bank l f x y) (omega arith)
      ∙ ap (λ (on : Bool). composed stencil pal u (dot on)) (sym o))

  no_tile : w.on ≡ false → (k : ℕ) → clear ≡ tile_dot w t transparent bank y k
  unfolding tile_dot
  no_tile o k = rw o

  pub layered-gone : (n : ℕ) → n ≡ 640 → w.on ≡ false → stencil ≡ true → tab (λ (k : ℕ). 512) n ≡ tab laid 640
  layered-gone n e o s =
      ap (tab (λ (k : ℕ). 512)) e
      ∙ tab-ext _ _ 640 (λ k h.
      stencilled-bare pal (get_or out k 0)
      ∙ ap (λ (b : Bool). composed b pal (get_or out k 0) clear) (sym s)
      ∙ ap (composed stencil pal (get_or out k 0)) (no_tile o k))

  pub layered-bare : length out ≡ 640 → w.on ≡ false → stencil ≡ false → out ≡ tab laid 640
  layered-bare e o s =
      tab-entries out ∙ ap (tab (λ (k : ℕ). get_or out k 0)) e
      ∙ tab-ext _ _ 640 (λ k h.
      bare pal (get_or out k 0)
      ∙ ap (λ (b : Bool). composed b pal (get_or out k 0) clear) (sym s)
      ∙ ap (composed stencil pal (get_or out k 0)) (no_tile o k))

-- what the state says of the tilemap, put in its place
pub tiles-of : (u : Ula) (v : Tiles) (clip bank pal old out : List ℕ) (line : LineNumber) (t : TileSetup) (w : Window) (stencil : Bool)
    → out ≡ tab (λ (k : ℕ). composed stencil pal (get_or old k 0) (tile_dot w t v.transparent bank line.0 k)) 640
    → t ≡ setup_of v (ula_on u) → w ≡ window_of v clip line → stencil ≡ stencil_on u v
    → out ≡ tab (λ (k : ℕ). composed (stencil_on u v) pal (get_or old k 0) (tile_dot (window_of v clip line) (setup_of v (ula_on u)) v.transparent bank line.0 k)) 640
tiles-of u v clip bank pal old out line t w stencil e et ew es =
    e ∙ tab-ext _ _ 640 (λ k h. rw (et, ew, es))
