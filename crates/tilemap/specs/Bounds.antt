-- The bounds under which a row is filled; no part of what a dot is.
use Rattle.std.specs.Prelude.{ℕ, ◌≤◌, ◌<◌, List, get_or}

-- a table of colours, or 512 where transparent
pub record ShadeBounds (shades : List ℕ) : Type 0 where
  pub most : (i : ℕ) → i < 256 → get_or shades i 0 ≤ 512
