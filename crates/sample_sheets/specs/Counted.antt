-- What is counted of a sheet: the pixels that differ from the picture's, and the entries that are the first with their tile number.
use Rattle.std.specs.Prelude.{List, Bool, not, ℕ, ◌/◌, ◌%◌, replicate, eqb}
use Rattle.lists.specs.Search.{some, count}
use Rattle.lists.specs.Placed.{placed}
use Rattle.tilemap_entries.specs.declared.entries.TileSetup.{TileSetup}
use Rattle.tilemap_rule.specs.Index.{tile_index}
use Rattle.pack_classes.specs.Picture.{pixel_of}
use Rattle.pack_rule.specs.Sheet.{low_byte}

-- the definitions at the bank's start and the map at its end
abbrev pub bank_of : List ℕ → List ℕ → List ℕ
bank_of map defs = placed (placed (replicate 16384 0) 0 defs) 13824 map

-- the index at pixel i of 81,920, row by row, is that of the picture, with palette offset 0
unfoldable pub right_at : List ℕ → List ℕ → TileSetup → ℕ → Bool
right_at pic bank t i = eqb (tile_index t bank (i % 320) (i / 320)) (pixel_of pic (i % 320) (i / 320))

-- how many pixels have another index
unfoldable pub wrong_in : List ℕ → List ℕ → TileSetup → ℕ
wrong_in pic bank t = count (λ i. not (right_at pic bank t i)) 81920

-- no entry before c has its tile number
unfoldable pub is_first : List ℕ → ℕ → Bool
is_first map c = not (some (λ i. eqb (low_byte map i) (low_byte map c)) c)
