-- Rules 8.2 and 8.3: which cells can be turned into each other, by the tilemap's turns.
use Rattle.std.specs.Prelude.{ℕ, List, Bool, eqb}
use Rattle.lists.specs.Search.{least, some, all, firsts}
use Rattle.tilemap_turns.specs.Turns.{column_of, row_of}
use Rattle.pack_classes.specs.Picture.{cell_pixels, pixel_in}

-- one cell of 64 pixels, turned by t, is another at (x, y)
abbrev pub turned_at : List ℕ → List ℕ → ℕ → ℕ → ℕ → Bool
turned_at from cell t y x = eqb (pixel_in cell x y) (pixel_in from (column_of t x y) (row_of t x y))

-- in the row y
unfoldable pub turned_row : List ℕ → List ℕ → ℕ → ℕ → Bool
turned_row from cell t y = all (turned_at from cell t y) 8

-- one cell of 64 pixels, turned by t, is another
unfoldable pub turned_into : List ℕ → List ℕ → ℕ → Bool
turned_into from cell t = all (turned_row from cell t) 8

-- the smallest 4 × x mirror + 2 × y mirror + rotate that makes one cell of 64 pixels into another, or 8
unfoldable pub turn_for : List ℕ → List ℕ → ℕ
turn_for from cell = least (turned_into from cell) 8

-- one cell of 64 pixels can be turned into another
unfoldable pub can_make : List ℕ → List ℕ → Bool
can_make from cell = some (turned_into from cell) 8

-- cell d can be turned into cell c
abbrev pub can_turn : List ℕ → ℕ → ℕ → Bool
can_turn pic d c = can_make (cell_pixels pic d) (cell_pixels pic c)

-- how many cells there are that no earlier cell can be turned into
unfoldable pub classes : List ℕ → ℕ
classes pic = firsts (can_turn pic) 1280
