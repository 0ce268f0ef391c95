-- The banks of the example screen, byte by byte.
use Rattle.std.specs.Prelude.{ℕ, ◌+◌, ◌-◌, ◌*◌, ◌/◌, ◌%◌, ◌^◌, List, [], ◌∷◌, Bool, cond, ◌&&◌, ◌||◌, get_or, leb, ltb, eqb}

-- row (at div 256) mod 8 of a cell has its right-hand 8 - row pixels set; an attribute's ink goes by column, its paper by row
unfoldable pub ula_byte : ℕ → ℕ
ula_byte at =
    cond (ltb at 6144) (255 / 2 ^ (at / 256 % 8))
    (cond (ltb at 6912) (at % 32 / 4 + (at - 6144) / 32 / 3 * 8 + at % 32 / 2 % 2 * 64) 0)

-- a cell that shows the letter
abbrev pub lettered : ℕ → ℕ → Bool
lettered row column =
    (eqb (row / 4) 0 || eqb (row / 4) 3 || eqb (row / 4) 7) && leb 1 (row % 4) && leb 4 column && ltb column 36 && ltb (column % 4) 3

-- an entry is tile 1 with turn t and palette offset t, one for each band of four columns from column 4 on; or tile 0
unfoldable pub map_byte : ℕ → ℕ
map_byte at =
    cond (lettered (at / 80) (at % 80 / 2)) (cond (eqb (at % 2) 0) 1 ((at % 80 / 2 / 4 + 7) % 8 * 18)) 0

-- the letter F with a spot, on black, 4 bytes a row
abbrev pub letter : List ℕ
letter =
    0x01 ∷ 0x11 ∷ 0x11 ∷ 0x0F ∷
    0x01 ∷ 0x00 ∷ 0x00 ∷ 0x0F ∷
    0x01 ∷ 0x00 ∷ 0x00 ∷ 0x0F ∷
    0x01 ∷ 0x11 ∷ 0x00 ∷ 0x0F ∷
    0x01 ∷ 0x00 ∷ 0x00 ∷ 0x0F ∷
    0x01 ∷ 0x00 ∷ 0x00 ∷ 0x0F ∷
    0x01 ∷ 0x00 ∷ 0x02 ∷ 0x0F ∷
    0xFF ∷ 0xFF ∷ 0xFF ∷ 0xFF ∷ []

-- definition 0 is transparent, definition 1 the letter
unfoldable pub definition_byte : ℕ → ℕ
definition_byte at = cond (ltb at 32) 255 (cond (ltb at 64) (get_or letter (at - 32) 0) 0)

-- the map from 0, the definitions from 4,096
unfoldable pub tile_byte : ℕ → ℕ
tile_byte at = cond (ltb at 2560) (map_byte at) (cond (ltb at 4096) 0 (definition_byte (at - 4096)))
