-- How two cells are compared: row by row, a row of eight pixels as one number; and a cell with its rows and columns exchanged,
-- in which a rotated turn too goes row by row. No rule speaks of these.
use Rattle.std.specs.Prelude.{◌≡◌, ℕ, ◌+◌, ◌*◌, ◌/◌, ◌%◌, ◌<◌, List, Bool, false, get_or, eqb}
use Rattle.lists.specs.Tab.{tab}
use Rattle.lists.specs.Search.{all}
use Rattle.tilemap_turns.specs.Turns.{mirrored}

-- a cell of 64 pixels with its rows and columns exchanged
unfoldable pub transpose_of : List ℕ → List ℕ
transpose_of cell = tab (λ (i : ℕ). get_or cell (i % 8 * 8 + i / 8) 0) 64

-- eight bytes, and their number with the first the lowest
pub record Eight (a b c d e f g h r : ℕ) : Type 0 where
  pub row_number : r ≡ a + b * 256 + c * 65536 + d * 16777216 + e * 4294967296 + f * 1099511627776 + g * 281474976710656 + h * 72057594037927936
  pub byte0 : a < 256
  pub byte1 : b < 256
  pub byte2 : c < 256
  pub byte3 : d < 256
  pub byte4 : e < 256
  pub byte5 : f < 256
  pub byte6 : g < 256
  pub byte7 : h < 256

-- pixel x of the row of a cell from place i on, mirrored or not
abbrev pub in_row : List ℕ → ℕ → Bool → ℕ → ℕ
in_row cell i back x = get_or cell (i + mirrored back x) 0

-- r is the number of such a row
abbrev pub Row : List ℕ → ℕ → Bool → ℕ → Type 0
Row cell i back r =
    Eight (in_row cell i back 0) (in_row cell i back 1) (in_row cell i back 2) (in_row cell i back 3) (in_row cell i back 4)
    (in_row cell i back 5) (in_row cell i back 6) (in_row cell i back 7) r

-- the row from place i on of a cell is that from place j on of another, mirrored or not
unfoldable pub row_same : List ℕ → ℕ → Bool → List ℕ → ℕ → Bool
row_same from j back cell i = all (λ x. eqb (in_row cell i false x) (in_row from j back x)) 8

-- a cell is another mirrored, down or not, and back or not
unfoldable pub rows_same : List ℕ → List ℕ → Bool → Bool → Bool
rows_same from cell down back = all (λ y. row_same from (mirrored down y * 8) back cell (y * 8)) 8
