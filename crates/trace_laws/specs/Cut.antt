-- Rule 17.11: a trace cut after some of its entries.
use Rattle.std.specs.Prelude.{ℕ, ◌+◌, ◌*◌, ◌/◌, ◌%◌, List, ◌∷◌, take, drop}

-- the first n entries of a trace, with a head of their own: the number of bytes following, high first, and the version
abbrev pub cut : List ℕ → ℕ → List ℕ
cut t n = (n * 4 + 1) / 256 ∷ (n * 4 + 1) % 256 ∷ 1 ∷ take (n * 4) (drop 3 t)
