-- Rules 1.6 and 8.5 to 8.7: a map and 256 definitions, whoever made them, what they name, and what it is for them to draw a picture.
use Rattle.std.specs.Prelude.{◌≡◌, List, ◌⊎◌, true, false, ℕ, ◌+◌, ◌*◌, ◌/◌, ◌%◌, ◌≤◌, ◌<◌, length, get_or, take, drop}
use Rattle.lists.specs.Search.{different}
use Rattle.lists.specs.Bytes.{Bytes}
use Rattle.tilemap_entries.specs.declared.entries.TileSetup.{TileSetup}
use Rattle.tilemap_turns.specs.Turns.{turn_of, column_of, row_of, half_of}
use Rattle.tilemap_rule.specs.Index.{index_of, tile_index}
use Rattle.pack_classes.specs.Picture.{pixel_of}

-- the tile number of an entry: the low byte alone, without bit 8, as the ULA is on
unfoldable pub low_byte : List ℕ → ℕ → ℕ
low_byte map c = get_or map (c * 2) 0

unfoldable pub high_byte : List ℕ → ℕ → ℕ
high_byte map c = get_or map (c * 2 + 1) 0

-- a map names as many tiles as there are different tile numbers in its 1,280 entries
unfoldable pub named : List ℕ → ℕ
named map = different (low_byte map) 1280

-- in 40 columns, two bytes an entry, X offset and $31 both 0, the ULA on; $6C, whatever it is, is not read
abbrev pub sheet_setup : ℕ → ℕ → ℕ → TileSetup
sheet_setup attribute map_base def_base = record {
  columns80 = false;
  single = false;
  attribute = attribute;
  ula = true;
  map = map_base;
  definitions = def_base;
  x = 0;
  y = 0;
}

-- set in a bank at any multiples of 256, sharing no byte and not running past 16,383
pub record SetIn (map defs bank : List ℕ) (map_base def_base : ℕ) : Type 0 where
  pub bank-length : length bank ≡ 16384
  pub bank-bytes : Bytes bank
  pub map-page : map_base % 256 ≡ 0
  pub def-page : def_base % 256 ≡ 0
  pub map-fits : map_base + 2560 ≤ 16384
  pub def-fits : def_base + 8192 ≤ 16384
  pub apart : (map_base + 2560 ≤ def_base) ⊎ (def_base + 8192 ≤ map_base)
  pub map-there : take 2560 (drop map_base bank) ≡ map
  pub defs-there : take 8192 (drop def_base bank) ≡ defs

-- the tilemap's rule gives the index palette offset × 16 + pixel at each of the 81,920 pixels
abbrev pub DrawsIn : List ℕ → ℕ → List ℕ → TileSetup → Type 0
DrawsIn pic offset bank t = (x y : ℕ) → x < 320 → y < 256 → tile_index t bank x y ≡ offset * 16 + pixel_of pic x y

-- a map and definitions draw the picture, however they are set in a bank
abbrev pub DrawsAlways : List ℕ → ℕ → List ℕ → List ℕ → Type 0
DrawsAlways pic offset map defs =
    (bank : List ℕ) (attribute map_base def_base : ℕ) → SetIn map defs bank map_base def_base → DrawsIn pic offset bank (sheet_setup attribute map_base def_base)

-- a map and definitions draw the picture, set in a bank in some one way
pub record Draws (pic : List ℕ) (offset : ℕ) (map defs : List ℕ) : Type 0 where
  pub bank : List ℕ
  pub attribute : ℕ
  pub map_base : ℕ
  pub def_base : ℕ
  pub set : SetIn map defs bank map_base def_base
  pub draws : DrawsIn pic offset bank (sheet_setup attribute map_base def_base)

-- the index at (x, y) read directly from a map and definitions
unfoldable pub sheet_index : List ℕ → List ℕ → ℕ → ℕ → ℕ
sheet_index map defs x y =
    let cell = y / 8 * 40 + x / 8 in
    let turn = turn_of (high_byte map cell) in
    let column = column_of turn (x % 8) (y % 8) in
    let row = row_of turn (x % 8) (y % 8) in
    index_of (high_byte map cell) (half_of column (get_or defs (low_byte map cell * 32 + row * 4 + column / 2) 0))
