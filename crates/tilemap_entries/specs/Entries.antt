-- Rules 3.22, 5.1 to 5.5 and 5.12: the entry at a position (x, y) of the surface, and the number of its tile.
use Rattle.std.specs.Prelude.{ℕ, ◌+◌, ◌*◌, ◌/◌, ◌%◌, List, Bool, cond, get_or, eqb}
use Rattle.state_bits.specs.Bits.{columns_of, width_of}
use Rattle.tilemap_entries.specs.declared.entries.TileSetup.{TileSetup}
use Rattle.tilemap_entries.specs.declared.entries.Entry.{Entry}

-- tx = (x + X offset) mod W
abbrev pub tx_of : TileSetup → ℕ → ℕ
tx_of t x = (x + t.x) % width_of t.columns80

-- ty = (y + $31) mod 256
abbrev pub ty_of : TileSetup → ℕ → ℕ
ty_of t y = (y + t.y) % 256

-- the entry is cell (ty div 8) × columns + tx div 8
abbrev pub cell_of : Bool → ℕ → ℕ → ℕ
cell_of columns80 tx ty = ty / 8 * columns_of columns80 + tx / 8

-- two bytes an entry, or one byte
unfoldable pub entry_address : TileSetup → ℕ → ℕ
entry_address t cell = cond t.single (t.map + cell) (t.map + cell * 2)

-- addresses are taken mod 16,384
unfoldable pub fetched : List ℕ → ℕ → ℕ
fetched bank at = get_or bank (at % 16384) 0

-- the high byte of the entry at an address: two bytes low first, or one byte with $6C
unfoldable pub high_of : TileSetup → List ℕ → ℕ → ℕ
high_of t bank at = cond t.single t.attribute (fetched bank (at + 1))

-- the entry of a cell
unfoldable pub entry_at : TileSetup → List ℕ → ℕ → Entry
entry_at t bank cell = let at = entry_address t cell in record { low = fetched bank at; high = high_of t bank at }

-- the entry at (x, y); x counts dots in 80 columns and pixels in 40
abbrev pub tile_entry : TileSetup → List ℕ → ℕ → ℕ → Entry
tile_entry t bank x y = entry_at t bank (cell_of t.columns80 (tx_of t x) (ty_of t y))

-- the tile number has bit 8 only when the ULA is off
unfoldable pub tile_number : TileSetup → Entry → ℕ
tile_number t e = cond t.ula e.low (e.low + e.high % 2 * 256)

-- the ULA is above where the entry's bit 8 is set, which for one-byte entries is $6C's bit 0
unfoldable pub ula_above : TileSetup → List ℕ → ℕ → ℕ → Bool
ula_above t bank x y = eqb ((tile_entry t bank x y).high % 2) 1
