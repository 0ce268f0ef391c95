-- What the packer's steps leave; no part of what a packing is.
use Rattle.std.specs.Prelude.{◌≡◌, List, ℕ, ◌≤◌, ◌<◌, Option, MatchOption}
use Rattle.pack_rule.specs.Greedy.{tile_count, packed_map, packed_defs}

-- so many definitions, at most allowed, or the picture takes more
abbrev pub Counted : List ℕ → ℕ → Option ℕ → Type 0
Counted pic allowed r = MatchOption r (allowed < tile_count pic) (λ n. (n ≤ allowed) × (n ≡ tile_count pic))

-- the same, and the sheet is written where they are at most allowed, and left where there are more
abbrev pub Written : List ℕ → ℕ → ℕ → List ℕ → List ℕ → List ℕ → List ℕ → Option ℕ → Type 0
Written pic allowed offset map defs map' defs' r =
    MatchOption r ((allowed < tile_count pic) × (map' ≡ map) × (defs' ≡ defs))
    (λ n. (n ≤ allowed) × (n ≡ tile_count pic) × (map' ≡ packed_map pic offset) × (defs' ≡ packed_defs pic))
