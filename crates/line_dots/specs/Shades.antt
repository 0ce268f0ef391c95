-- How the tile dots of a line are composed by their shades: 1024 more than a dot where the tile is under the ULA. No part of what a
-- dot is: composing a shade is composing the tile dot.
use Rattle.std.specs.Prelude.{ℕ, ◌/◌, ◌%◌, List, Bool, cond, get_or, eqb}
use Rattle.lists.specs.Tab.{tab}
use Rattle.surface.specs.Dots.{top_dot}
use Rattle.line_dots.specs.Compose.{stencilled}

-- a colour of the palette at an index, or 512 where the pixel there is the transparent one
abbrev pub unless_transparent : ℕ → ℕ → ℕ → ℕ
unless_transparent transparent i colour = cond (eqb (i % 16) transparent) 512 colour

-- the palette shown, with 512 at each index of the transparent pixel
unfoldable pub shades_of : List ℕ → ℕ → List ℕ
shades_of pal transparent = tab (λ (i : ℕ). unless_transparent transparent i (get_or pal i 0)) 256

-- a ULA dot with the shade of a tile dot
unfoldable pub shade_over : Bool → ℕ → ℕ → ℕ
shade_over stencil u v =
    let t = v % 1024 in cond stencil (stencilled u t) (cond (eqb (v / 1024) 1) (top_dot u t) (top_dot t u))
