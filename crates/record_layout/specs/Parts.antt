-- Rules 7.13 and 9.18, and the stored record as a list of parts. All that is said of a record, its bytes, its length, the state in it
-- and its bad places, is said of such a list; the places of the parts are sums of their widths.
use Rattle.std.specs.Prelude.{ℕ, ◌+◌, ◌*◌, ◌-◌, List, [], ◌∷◌, ◌++◌, Bool, false, cond, not, ◌&&◌, ◌||◌, get_or, eqb, ltb}
use Rattle.lists.specs.Search.{least, some}
use Rattle.state.specs.declared.State.{State}
use Rattle.record_layout.specs.Fields.{Width, field_size, field_at, row_bytes, row_at}

-- a part is one byte, with its bound, which may look at the byte before it, and what it holds of a state; or so many
-- fields of a width in a row, with the bound of each, and what they hold of a state
pub data Part : Type 0 where
  one : (ℕ → ℕ → Bool) → (State → ℕ) → Part
  row : Width → ℕ → (ℕ → Bool) → (State → List ℕ) → Part

-- how many bytes a part has
abbrev pub size : Part → ℕ
size (one bound field) = 1
size (row w n bound field) = field_size w * n

-- how many bytes the parts have
abbrev pub sizes : List Part → ℕ
sizes [] = 0
sizes (p ∷ ps) = size p + sizes ps

-- the places of the parts that stand from a place on
abbrev pub places : List Part → ℕ → List ℕ
places [] at = []
places (p ∷ ps) at = at ∷ places ps (at + size p)

-- the bytes of a state in a part
abbrev pub part_bytes : Part → State → List ℕ
part_bytes (one bound field) s = field s ∷ []
part_bytes (row w n bound field) s = row_bytes w (field s)

-- the bytes of a state in the parts, one after the other
abbrev pub bytes_of : List Part → State → List ℕ
bytes_of [] s = []
bytes_of (p ∷ ps) s = part_bytes p s ++ bytes_of ps s

-- a state as a function of what the parts hold
abbrev pub FromParts : List Part → Type 0
FromParts [] = State
FromParts (one bound field ∷ ps) = ℕ → FromParts ps
FromParts (row w n bound field ∷ ps) = List ℕ → FromParts ps

-- the state that the parts hold where they stand in the bytes b from a place on
abbrev pub state_at : (ps : List Part) → FromParts ps → List ℕ → ℕ → State
state_at [] f b at = f
state_at (one bound field ∷ ps) f b at = state_at ps (f (get_or b at 0)) b (at + 1)
state_at (row w n bound field ∷ ps) f b at = state_at ps (f (row_at w n b at)) b (at + field_size w * n)

-- the first field of a row, counted from 0, that is out of its bound; n where none is
abbrev pub first_bad_field : Width → ℕ → (ℕ → Bool) → List ℕ → ℕ → ℕ
first_bad_field w n bound b at = least (λ (i : ℕ). not (bound (field_at w b (at + field_size w * i)))) n

-- its place, the row standing at a place of the bytes b: that of its first byte, so that a pair is bad at its high byte; `next` where none is
unfoldable pub first_bad_row : Width → ℕ → (ℕ → Bool) → List ℕ → ℕ → ℕ → ℕ
first_bad_row w n bound b at next = let i = first_bad_field w n bound b at in cond (ltb i n) (at + field_size w * i) next

-- the place of the first field of a part that is out of its bound; `next` where none is
abbrev pub first_bad_of : Part → List ℕ → ℕ → ℕ → ℕ
first_bad_of (one bound field) b at next = cond (bound (get_or b (at - 1) 0) (get_or b at 0)) next at
first_bad_of (row w n bound field) b at next = first_bad_row w n bound b at next

-- the same of parts in a row: one walk over them in their order
abbrev pub first_bad_in : List Part → List ℕ → ℕ → ℕ → ℕ
first_bad_in [] b at next = next
first_bad_in (p ∷ ps) b at next = first_bad_of p b at (first_bad_in ps b (at + size p) next)

-- a field of the part, which stands at a place of the bytes b, starts at place k and is out of its bound
abbrev pub bad_part : Part → List ℕ → ℕ → ℕ → Bool
bad_part (one bound field) b at k = eqb k at && not (bound (get_or b (at - 1) 0) (get_or b at 0))
bad_part (row w n bound field) b at k = some (λ (i : ℕ). eqb k (at + field_size w * i) && not (bound (field_at w b k))) n

-- a field of the parts, which stand in the bytes b from a place on, starts at place k and is out of its bound
abbrev pub bad : List Part → List ℕ → ℕ → ℕ → Bool
bad [] b at k = false
bad (p ∷ ps) b at k = bad_part p b at k || bad ps b (at + size p) k
