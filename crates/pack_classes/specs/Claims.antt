-- Rule 13.4: the eight turns, by the tilemap's rule.
use Rattle.std.specs.Prelude.{ℕ, ◌<◌, ◌≡◌}
use Rattle.tilemap_turns.specs.Turns.{column_of, row_of}

-- turn s shows what turn t shows of what turn u shows
pub record After (t u s : ℕ) : Type 0 where
  pub columns : (x y : ℕ) → x < 8 → y < 8 → column_of t (column_of u x y) (row_of u x y) ≡ column_of s x y
  pub rows : (x y : ℕ) → x < 8 → y < 8 → row_of t (column_of u x y) (row_of u x y) ≡ row_of s x y

-- one turn after another is one of the eight
abbrev pub TurnsClosed : Type 0
TurnsClosed = (t u : ℕ) → t < 8 → u < 8 → (s : ℕ) × (s < 8) × After t u s

-- each turn can be undone: some turn after it is turn 0, which changes nothing
abbrev pub TurnsUndone : Type 0
TurnsUndone = (t : ℕ) → t < 8 → (s : ℕ) × (s < 8) × After t s 0

abbrev pub TurnNone : Type 0
TurnNone = (x y : ℕ) → (column_of 0 x y ≡ x) × (row_of 0 x y ≡ y)
