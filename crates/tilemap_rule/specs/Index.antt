-- Rules 5.3 and 5.6 to 5.8: the index at a position (x, y) of the surface, before transparency and clip. This is the one rule: the drawn
-- line, the packing and the check of sheets speak of `tile_index`.
use Rattle.std.specs.Prelude.{ℕ, ◌+◌, ◌*◌, ◌/◌, ◌%◌, List}
use Rattle.tilemap_entries.specs.Entries.{tx_of, ty_of, fetched, tile_number, tile_entry}
use Rattle.tilemap_entries.specs.declared.entries.TileSetup.{TileSetup}
use Rattle.tilemap_entries.specs.declared.entries.Entry.{Entry}
use Rattle.tilemap_turns.specs.Turns.{turn_of, column_of, row_of, half_of}

-- pixel (column, row) of the definition at an address: 32 bytes, 4 a row
unfoldable pub pixel_at : List ℕ → ℕ → ℕ → ℕ → ℕ
pixel_at bank at column row = half_of column (fetched bank (at + row * 4 + column / 2))

-- the pixel that an entry shows at (x, y) of its cell
unfoldable pub entry_pixel : TileSetup → List ℕ → Entry → ℕ → ℕ → ℕ
entry_pixel t bank e x y =
    let turn = turn_of e.high in pixel_at bank (t.definitions + tile_number t e * 32) (column_of turn x y) (row_of turn x y)

-- index: palette offset × 16 + pixel
abbrev pub index_of : ℕ → ℕ → ℕ
index_of high pixel = high / 16 * 16 + pixel

-- the index at (x, y)
unfoldable pub tile_index : TileSetup → List ℕ → ℕ → ℕ → ℕ
tile_index t bank x y =
    let e = tile_entry t bank x y in index_of e.high (entry_pixel t bank e (tx_of t x % 8) (ty_of t y % 8))
