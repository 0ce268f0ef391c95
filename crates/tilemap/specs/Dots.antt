-- Rules 2.2, 5.1, 5.9 and 5.10: a tile dot, with transparency and clip.
use Rattle.std.specs.Prelude.{ℕ, ◌/◌, ◌%◌, List, Bool, true, false, cond, not, ◌||◌, eqb}
use Rattle.surface.specs.Dots.{inside}
use Rattle.tilemap_entries.specs.declared.entries.TileSetup.{TileSetup}
use Rattle.tilemap_setup.specs.declared.setup.Window.{Window}
use Rattle.tilemap_rule.specs.Index.{tile_index}
use Rattle.tilemap_entries.specs.Entries.{ula_above}

-- a tile dot is transparent, or shows an index, with the ULA above it or not
pub data TileDot : Type 0 where
  clear : TileDot
  shows : ℕ → Bool → TileDot

-- x counts dots in 80 columns and pixels in 40
abbrev pub across_of : Bool → ℕ → ℕ
across_of true k = k
across_of false k = k / 2

-- transparent: tilemap off, pixel equals $4C, or outside the clip
abbrev pub is_clear : Window → ℕ → ℕ → ℕ → Bool
is_clear w transparent index k = not w.on || eqb (index % 16) transparent || not (inside (k / 2) w.left w.right)

-- dot k of line y
unfoldable pub tile_dot : Window → TileSetup → ℕ → List ℕ → ℕ → ℕ → TileDot
tile_dot w t transparent bank y k =
    let x = across_of t.columns80 k in
    let index = tile_index t bank x y in
    cond (is_clear w transparent index k) clear (shows index (ula_above t bank x y))
