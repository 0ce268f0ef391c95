-- The row that a line is composed from, in shades: a colour, or 512 where transparent, and 1024 more where the entry's bit 8 is
-- set. No part of what a dot is: `line` shows that composing a shade is composing the tile dot.
use Rattle.std.specs.Prelude.{ℕ, ◌+◌, ◌*◌, ◌/◌, ◌%◌, List, get_or}
use Rattle.lists.specs.Tab.{tab}
use Rattle.tilemap_entries.specs.declared.entries.TileSetup.{TileSetup}
use Rattle.state_bits.specs.Bits.{columns_of, width_of}
use Rattle.tilemap_entries.specs.Entries.{ty_of, cell_of, entry_at}
use Rattle.tilemap_rule.specs.Index.{entry_pixel}

-- what the table lent has at an offset and a pixel, with a mark
unfoldable pub shade_from : List ℕ → ℕ → ℕ → ℕ → ℕ
shade_from shades offset mark pixel = get_or shades (offset + pixel) 0 + mark

-- the shade of an entry's pixel, with the mark of bit 8
abbrev pub shade_of : List ℕ → ℕ → ℕ → ℕ
shade_of shades high pixel = shade_from shades (high / 16 * 16) (high % 2 * 1024) pixel

-- the shade at (tx, ty) of the map
unfoldable pub shade_at : TileSetup → List ℕ → List ℕ → ℕ → ℕ → ℕ
shade_at t shades bank tx ty =
    let e = entry_at t bank (cell_of t.columns80 tx ty) in shade_of shades e.high (entry_pixel t bank e (tx % 8) (ty % 8))

-- how many shades a line's cells have: one cell more than the columns
abbrev pub row_length : TileSetup → ℕ
row_length t = (columns_of t.columns80 + 1) * 8

-- the shades of a line's cells, from the start of the cell that holds x = 0
unfoldable pub tile_row : TileSetup → List ℕ → List ℕ → ℕ → List ℕ
tile_row t shades bank y = tab (λ (j : ℕ). shade_at t shades bank ((t.x / 8 * 8 + j) % width_of t.columns80) (ty_of t y)) (row_length t)
