-- Rule 7.3: a record's fields are bytes, or pairs of bytes with the high one first.
use Rattle.std.specs.Prelude.{ℕ, ◌+◌, ◌*◌, ◌/◌, ◌%◌, List, [], ◌∷◌, ◌++◌, Bool, cond, get_or}
use Rattle.lists.specs.Tab.{tab}

-- a field is one byte or two
pub data Width : Type 0 where
  byte pair : Width

abbrev pub field_size : Width → ℕ
field_size byte = 1
field_size pair = 2

-- the bytes of a field's number
abbrev pub field_bytes : Width → ℕ → List ℕ
field_bytes byte x = x ∷ []
field_bytes pair x = x / 256 ∷ x % 256 ∷ []

-- the number of the field at a place
abbrev pub field_at : Width → List ℕ → ℕ → ℕ
field_at byte b k = get_or b k 0
field_at pair b k = get_or b k 0 * 256 + get_or b (k + 1) 0

-- the bytes of numbers in a row
abbrev pub row_bytes : Width → List ℕ → List ℕ
row_bytes w [] = []
row_bytes w (x ∷ xs) = field_bytes w x ++ row_bytes w xs

-- the n numbers in a row from a place on
abbrev pub row_at : Width → ℕ → List ℕ → ℕ → List ℕ
row_at w n b at = tab (λ (i : ℕ). field_at w b (at + field_size w * i)) n

-- a flag is 0 or 1
abbrev pub flag_byte : Bool → ℕ
flag_byte f = cond f 1 0
