-- What a search among the listed cells keeps and finds; no part of what a packing is.
use Rattle.std.specs.Prelude.{◌≡◌, List, [], false, ℕ, ◌%◌, ◌≤◌, ◌<◌, length, get_or, Option, MatchOption}
use Rattle.lists.specs.Search.{least}
use Rattle.pack_classes.specs.Turned.{turn_for, can_make}
use Rattle.pack_classes.specs.Mark.{mark_of}
use Rattle.pack_turns.specs.Rows.{transpose_of}
use Rattle.pack_search.specs.declared.search.Match.{Match}
use Rattle.pack_search.specs.declared.search.Table.{Table}

-- the n listed cells of 64 pixels, each with its transpose and its mark
pub record Listed (pixels transposes : List (List ℕ)) (marks : List ℕ) (n : ℕ) : Type 0 where
  pub pixels-length : length pixels ≡ 256
  pub transposes-length : length transposes ≡ 256
  pub marks-length : length marks ≡ 256
  pub some_left : n ≤ 256
  pub transpose-is : (k : ℕ) → k < n → get_or transposes k [] ≡ transpose_of (get_or pixels k [])
  pub mark-is : (k : ℕ) → k < n → get_or marks k 0 ≡ mark_of (get_or pixels k [])

-- the slot of a listed cell's mark is not empty; and no listed cell can be turned into a later one
pub record Slotted (pixels : List (List ℕ)) (slots : List ℕ) (n : ℕ) : Type 0 where
  pub slots_length : length slots ≡ 8192
  pub used : (k : ℕ) → k < n → 0 < get_or slots (mark_of (get_or pixels k []) % 4096) 0
  pub apart : (j k : ℕ) → j < k → k < n → can_make (get_or pixels j []) (get_or pixels k []) ≡ false

-- what a table keeps of its cells
pub record Kept (t : Table) : Type 0 where
  pub listed : Listed t.pixels t.transposes t.marks t.count
  pub slotted : Slotted t.pixels t.slots t.count

-- a listed cell, and the smallest turn by which it makes a cell of 64 pixels
pub record Makes (pixels : List (List ℕ)) (cell : List ℕ) (n : ℕ) (p : Match) : Type 0 where
  pub listed : p.tile < n
  pub turn_is : p.turn ≡ turn_for (get_or pixels p.tile []) cell
  pub turn_small : p.turn < 8

-- what a search among n listed cells finds for a cell of 64 pixels: its first maker and the smallest turn; or none makes it
abbrev pub Found : List (List ℕ) → List ℕ → ℕ → Option Match → Type 0
Found pixels cell n p =
    MatchOption p (n ≡ least (λ k. can_make (get_or pixels k []) cell) n)
    (λ m. (m.tile ≡ least (λ k. can_make (get_or pixels k []) cell) n) × Makes pixels cell n m)
