-- A sequence of bytes.
use Rattle.std.specs.Prelude.{ℕ, ◌<◌, List, get_or}

-- every element is below 256
abbrev pub Bytes : List ℕ → Type 0
Bytes b = (i : ℕ) → get_or b i 0 < 256
