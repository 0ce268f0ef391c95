-- Rules 8.1 and 8.2: the picture and its cells.
use Rattle.std.specs.Prelude.{ℕ, ◌+◌, ◌*◌, ◌/◌, ◌%◌, List, get_or}
use Rattle.lists.specs.Tab.{tab}
use Rattle.tilemap_turns.specs.Turns.{half_of}

-- the picture is 256 rows of 160 bytes, high half left
unfoldable pub pixel_of : List ℕ → ℕ → ℕ → ℕ
pixel_of pic x y = half_of x (get_or pic (y * 160 + x / 2) 0)

-- pixel (x, y) of a cell; cells are taken row by row, 40 in a row
unfoldable pub cell_pixel : List ℕ → ℕ → ℕ → ℕ → ℕ
cell_pixel pic c x y = pixel_of pic (c % 40 * 8 + x) (c / 40 * 8 + y)

-- byte k of the 32 of a cell, 4 a row
unfoldable pub cell_byte : List ℕ → ℕ → ℕ → ℕ
cell_byte pic c k = get_or pic ((c / 40 * 8 + k / 4) * 160 + c % 40 * 4 + k % 4) 0

-- the 64 pixels of a cell, row by row
unfoldable pub cell_pixels : List ℕ → ℕ → List ℕ
cell_pixels pic c = tab (λ (i : ℕ). cell_pixel pic c (i % 8) (i / 8)) 64

-- pixel (x, y) of a cell of 64 pixels
abbrev pub pixel_in : List ℕ → ℕ → ℕ → ℕ
pixel_in cell x y = get_or cell (y * 8 + x) 0
