-- What the steps of a packing keep; no part of what a packing is.
use Rattle.std.specs.Prelude.{◌≡◌, List, [], ℕ, ◌*◌, ◌≤◌, ◌<◌, length, get_or, Option, MatchOption}
use Rattle.pack_classes.specs.Picture.{cell_pixels}
use Rattle.pack_rule.specs.Greedy.{def_cells, map_byte}
use Rattle.pack_search.specs.declared.search.Table.{Table}
use Rattle.pack_search.specs.Bounds.{Kept}

-- the packing of the cells below c: n definitions, from these cells, and the map's bytes so far
pub record PackedSoFar (pic : List ℕ) (offset : ℕ) (cells map : List ℕ) (n c : ℕ) : Type 0 where
  pub cells-length : length cells ≡ 256
  pub map-length : length map ≡ 2560
  pub some_left : n ≤ 256
  pub count : n ≡ length (def_cells pic c)
  pub same : (k : ℕ) → k < n → get_or cells k 0 ≡ get_or (def_cells pic c) k 0
  pub mapped : (i : ℕ) → i < c * 2 → get_or map i 0 ≡ map_byte pic offset i

-- the same, with those cells listed
pub record Progress (pic : List ℕ) (offset : ℕ) (cells : List ℕ) (t : Table) (map : List ℕ) (c : ℕ) : Type 0 where
  pub packed : PackedSoFar pic offset cells map t.count c
  pub kept : Kept t
  pub taken : (k : ℕ) → k < t.count → get_or t.pixels k [] ≡ cell_pixels pic (get_or cells k 0)

-- so many definitions, at most allowed, and P of their number; or the cells below c need more than allowed
abbrev pub Stepped : (ℕ → Type 0) → List ℕ → ℕ → ℕ → Option ℕ → Type 0
Stepped P pic allowed c r = MatchOption r (allowed < length (def_cells pic c)) (λ n. (n ≤ allowed) × P n)
