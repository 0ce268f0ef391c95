-- Rule 13.4: the turns, once over the flag set: whatever 4 × x mirror + 2 × y mirror + rotate is.
use Rattle.std.specs.Prelude.{ℕ, ◌<◌, ◌≡◌}
use Rattle.tilemap_turns.specs.Turns.{column_of, row_of}

-- a place of a cell shows a pixel of the definition, never one outside it
abbrev pub TurnsInside : Type 0
TurnsInside = (turn x y : ℕ) → x < 8 → y < 8 → (column_of turn x y < 8) × (row_of turn x y < 8)

-- the place (x, y) of a cell shows the definition's pixel (column, row)
pub record ShownAt (turn column row x y : ℕ) : Type 0 where
  pub across : x < 8
  pub down : y < 8
  pub its-column : column_of turn x y ≡ column
  pub its-row : row_of turn x y ≡ row

-- every pixel of a definition is shown, at one place only
abbrev pub ShownOnce : Type 0
ShownOnce =
    (turn column row : ℕ) → column < 8 → row < 8
    → (x : ℕ) × (y : ℕ) × ShownAt turn column row x y × ((p q : ℕ) → ShownAt turn column row p q → (p ≡ x) × (q ≡ y))
