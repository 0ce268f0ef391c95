-- Shades: each is a colour or 512, and composing a shade is composing the tile dot.
use Prim.Native.Nat.{ℕ, ◌+◌, ◌*◌, ◌/◌, ◌%◌, ◌≤◌, ◌<◌}
use mathlib.Core.Path.{◌≡◌, refl, sym, ap, ◌∙◌}
use mathlib.Core.List.{List}
use mathlib.Core.Bool.{Bool, true, false, cond, not, ◌||◌}
use native.Mathlib.Omega.{arith}
use lib.ListN.{get_or}
use lib.Dec.{eqb}
use borrow.Author.Tests.{eqb-true}
use Rattle.lists.proofs.Tab.{get_or-tab}
use Rattle.state.specs.Lawful.{all_colours}
use Rattle.state.proofs.Colours.{colour-at}
use Rattle.surface.specs.Dots.{inside, clipped, top_dot}
use Rattle.tilemap.specs.Dots.{clear, shows}
use Rattle.tilemap.specs.Bounds.{ShadeBounds}
use Rattle.line_dots.specs.Compose.{tile_colour, stencilled, composed}
use Rattle.line_dots.specs.Shades.{unless_transparent, shades_of, shade_over}

-- 512 or a colour
at-most-512 : (b : Bool) (x : ℕ) → x ≤ 511 → cond b 512 x ≤ 512
at-most-512 true x h = omega arith
at-most-512 false x h = omega arith

pub shaded : (shades pal : List ℕ) (transparent : ℕ) → shades ≡ shades_of pal transparent → all_colours pal ≡ true → ShadeBounds shades
unfolding shades_of
shaded shades pal transparent q e =
    record {
      most =
          λ i h. rw (q, get_or-tab (λ (j : ℕ). unless_transparent transparent j (get_or pal j 0)) 256 i h) (at-most-512 (eqb (i % 16) transparent) (get_or pal i 0) (colour-at pal i e));
    }

-- whichever palette is shown
pub shown-colours : (b : Bool) (pal first second : List ℕ) → pal ≡ cond b second first → all_colours first ≡ true → all_colours second ≡ true
    → all_colours pal ≡ true
shown-colours true pal first second e f g = ap all_colours e ∙ g
shown-colours false pal first second e f g = ap all_colours e ∙ f

-- a transparent tile dot may lie over the ULA's or under it
under_none : (u : ℕ) → top_dot u 512 ≡ u
unfolding top_dot
under_none u = go (eqb u 512) refl
  where
    go : (b : Bool) → eqb u 512 ≡ b → cond b 512 u ≡ u
    go true e = sym (eqb-true u 512 e)
    go false e = refl

module _ (stencil : Bool) (pal : List ℕ) (u : ℕ) where
  either : (b : Bool) → cond b (top_dot u 512) (top_dot 512 u) ≡ top_dot 512 u
  unfolding top_dot
  either true = under_none u
  either false = refl

  -- the shade of a transparent dot, marked or not
  shade-clear : (h : ℕ) → h < 2 → shade_over stencil u (512 + h * 1024) ≡ composed stencil pal u clear
  unfolding shade_over composed tile_colour
  shade-clear h l =
      let t : (512 + h * 1024) % 1024 ≡ 512 = omega arith in
      let q : (512 + h * 1024) / 1024 ≡ h = omega arith in
      rw (t, q) (ap (cond stencil (stencilled u 512)) (either (eqb h 1)))

  -- the shade of any other
  shade-solid : (i h : ℕ) → get_or pal i 0 ≤ 511 → h < 2 → shade_over stencil u (get_or pal i 0 + h * 1024) ≡ composed stencil pal u (shows i (eqb h 1))
  unfolding shade_over composed tile_colour
  shade-solid i h lc lh =
      let t : (get_or pal i 0 + h * 1024) % 1024 ≡ get_or pal i 0 = omega arith in
      let q : (get_or pal i 0 + h * 1024) / 1024 ≡ h = omega arith in
      rw (t, q)

  -- within the clip and outside it, the pixel transparent or not
  pub shade-composed : (transparent x left right i h : ℕ) → all_colours pal ≡ true → i < 256 → h < 2
      → shade_over stencil u (clipped x left right (get_or (shades_of pal transparent) i 0 + h * 1024))
      ≡ composed stencil pal u (cond (eqb (i % 16) transparent || not (inside x left right)) clear (shows i (eqb h 1)))
  unfolding shades_of clipped
  shade-composed transparent x left right i h a li lh =
      ap (λ (v : ℕ). shade_over stencil u (cond (inside x left right) (v + h * 1024) 512))
      (get_or-tab (λ (j : ℕ). unless_transparent transparent j (get_or pal j 0)) 256 i li)
      ∙ go (eqb (i % 16) transparent) (inside x left right)
    where
      go : (b c : Bool)
          → shade_over stencil u (cond c (cond b 512 (get_or pal i 0) + h * 1024) 512) ≡ composed stencil pal u (cond (b || not c) clear (shows i (eqb h 1)))
      go true true = shade-clear h lh
      go false true = shade-solid i h (colour-at pal i a) lh
      go true false = shade-clear 0 (omega arith)
      go false false = shade-clear 0 (omega arith)
