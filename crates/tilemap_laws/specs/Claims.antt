-- Rule 13.4: the addresses of a map, once over the column count and the size of an entry.
use Rattle.std.specs.Prelude.{ℕ, ◌+◌, ◌*◌, ◌/◌, ◌%◌, ◌≤◌, ◌<◌, ◌≡◌, Bool, true, false}
use Rattle.state_bits.specs.Bits.{columns_of, width_of}
use Rattle.tilemap_entries.specs.declared.entries.TileSetup.{TileSetup}
use Rattle.tilemap_entries.specs.Entries.{cell_of, entry_address}

-- what the number of a cell tells: it is one of columns × 32, and its column and row follow from it
pub record Numbered (columns80 : Bool) (tx ty : ℕ) : Type 0 where
  pub most : cell_of columns80 tx ty < columns_of columns80 * 32
  pub column : cell_of columns80 tx ty % columns_of columns80 ≡ tx / 8
  pub row : cell_of columns80 tx ty / columns_of columns80 ≡ ty / 8

-- each place of the map is in a cell of its own number
abbrev pub CellNumbers : Type 0
CellNumbers = (columns80 : Bool) (tx ty : ℕ) → tx < width_of columns80 → ty < 256 → Numbered columns80 tx ty

-- how many bytes an entry has
abbrev pub entry_size : Bool → ℕ
entry_size true = 1
entry_size false = 2

-- an entry is at map + cell × size
abbrev pub EntryAddresses : Type 0
EntryAddresses = (t : TileSetup) (cell : ℕ) → entry_address t cell ≡ t.map + cell * entry_size t.single

-- the entries of two cells share no byte: each ends where a later one starts or before, addresses not yet taken mod 16,384
abbrev pub EntriesApart : Type 0
EntriesApart = (t : TileSetup) (cell next : ℕ) → cell < next → entry_address t cell + entry_size t.single ≤ entry_address t next
