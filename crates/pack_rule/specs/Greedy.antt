-- Rules 1.6 and 8.1 to 8.5: the accepted packing of a picture.
use Rattle.std.specs.Prelude.{List, [], ◌∷◌, ◌++◌, cond, ℕ, zero, suc, ◌+◌, ◌*◌, ◌/◌, ◌%◌, length, get_or, eqb, ltb}
use Rattle.lists.specs.Tab.{tab}
use Rattle.lists.specs.Search.{least}
use Rattle.pack_classes.specs.Picture.{cell_byte, cell_pixels}
use Rattle.pack_classes.specs.Turned.{turn_for, can_turn}

-- the number, among the cells ds, of the first that can be turned into cell c, or how many they are
unfoldable pub first_maker : List ℕ → List ℕ → ℕ → ℕ
first_maker pic ds c = least (λ n. can_turn pic (get_or ds n 0) c) (length ds)

-- a cell that no earlier definition can be turned into becomes the next definition
abbrev pub with_cell : List ℕ → List ℕ → ℕ → List ℕ
with_cell pic ds c = cond (ltb (first_maker pic ds c) (length ds)) ds (ds ++ (c ∷ []))

-- cells are taken row by row: those below c that became definitions, in their order
unfoldable pub def_cells : List ℕ → ℕ → List ℕ
def_cells pic zero = []
def_cells pic (suc c) = with_cell pic (def_cells pic c) c

-- how many definitions the picture takes
abbrev pub tile_count : List ℕ → ℕ
tile_count pic = length (def_cells pic 1280)

-- the tile number of cell c
unfoldable pub tile_of : List ℕ → ℕ → ℕ
tile_of pic c = first_maker pic (def_cells pic c) c

-- the cell that cell c's definition was taken from
unfoldable pub source_of : List ℕ → ℕ → ℕ
source_of pic c = get_or (def_cells pic (suc c)) (tile_of pic c) 0

-- the smallest 4 × x mirror + 2 × y mirror + rotate that draws cell c
unfoldable pub cell_turn : List ℕ → ℕ → ℕ
cell_turn pic c = turn_for (cell_pixels pic (source_of pic c)) (cell_pixels pic c)

-- an entry, low byte first, has the offset given and bit 8 clear
unfoldable pub map_byte : List ℕ → ℕ → ℕ → ℕ
map_byte pic offset i = cond (eqb (i % 2) 0) (tile_of pic (i / 2)) (offset * 16 + cell_turn pic (i / 2) * 2)

-- a definition is its cell, upright; unused definitions are 0
unfoldable pub def_byte : List ℕ → ℕ → ℕ
def_byte pic i = cond (ltb (i / 32) (tile_count pic)) (cell_byte pic (get_or (def_cells pic 1280) (i / 32) 0) (i % 32)) 0

-- map 2,560 bytes
unfoldable pub packed_map : List ℕ → ℕ → List ℕ
packed_map pic offset = tab (map_byte pic offset) 2560

-- definitions 8,192 bytes
unfoldable pub packed_defs : List ℕ → List ℕ
packed_defs pic = tab (def_byte pic) 8192
