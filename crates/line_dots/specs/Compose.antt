-- Rules 5.8 and 5.11 to 5.13: both layers composed. A dot is a colour, or 512 where transparent.
use Rattle.std.specs.Prelude.{ℕ, List, Bool, false, cond, ◌&&◌, ◌||◌, get_or, eqb}
use Rattle.std.specs.Int.Bits.{bit_and}
use Rattle.lists.specs.Tab.{tab}
use Rattle.state_bits.specs.Bits.{ula_on, stencil_set, tilemap_on}
use Rattle.state.specs.declared.Ula.{Ula}
use Rattle.state.specs.declared.Tiles.{Tiles}
use Rattle.surface.specs.Dots.{top_dot}
use Rattle.tilemap.specs.Dots.{TileDot, clear, shows}

-- $68: bit 0 stencil, with both on
abbrev pub stencil_on : Ula → Tiles → Bool
stencil_on u t = stencil_set u && ula_on u && tilemap_on t

-- stencil: AND of both colours, or transparent if either is
unfoldable pub stencilled : ℕ → ℕ → ℕ
stencilled a b = cond (eqb a 512 || eqb b 512) 512 (bit_and a b)

-- the colour of a tile dot: its index in the tilemap palette shown
unfoldable pub tile_colour : List ℕ → TileDot → ℕ
tile_colour pal clear = 512
tile_colour pal (shows index above) = get_or pal index 0

-- the ULA is upper when the entry's bit 8 is set; with a transparent tile dot it is all the same
abbrev pub ula_upper : TileDot → Bool
ula_upper clear = false
ula_upper (shows index above) = above

-- else the upper dot unless transparent, then the lower
unfoldable pub composed : Bool → List ℕ → ℕ → TileDot → ℕ
composed stencil pal u d =
    let t = tile_colour pal d in cond stencil (stencilled u t) (cond (ula_upper d) (top_dot u t) (top_dot t u))

-- the fallback over a composed line
unfoldable pub finished : ℕ → List ℕ → List ℕ
finished fallback row = tab (λ (k : ℕ). top_dot (get_or row k 0) fallback) 640
