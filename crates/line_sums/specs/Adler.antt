-- Adler-32, over numbers of two bytes, high first.
use Rattle.std.specs.Prelude.{ℕ, ◌+◌, ◌*◌, ◌/◌, ◌%◌, ◌<◌, List, [], ◌∷◌}
use Rattle.line_sums.specs.declared.adler.Pair.{Pair}

-- one byte more: a is the sum of the bytes and 1, b the sum of the values of a, both mod 65,521
abbrev pub added : Pair → ℕ → Pair
added s x = record { a = (s.a + x) % 65521; b = (s.b + (s.a + x) % 65521) % 65521 }

-- the two bytes of a number more
abbrev pub dot_added : Pair → ℕ → Pair
dot_added s d = added (added s (d / 256)) (d % 256)

abbrev pub all_added : List ℕ → Pair → Pair
all_added [] s = s
all_added (d ∷ ds) s = all_added ds (dot_added s d)

abbrev pub joined : Pair → ℕ
joined s = s.b * 65536 + s.a

-- from a = 1 and b = 0 on
unfoldable pub line_sum : List ℕ → ℕ
line_sum ds = joined (all_added ds (record { a = 1; b = 0 }))

-- the bounds of the two sums
pub record Small (s : Pair) : Type 0 where
  pub a : s.a < 65521
  pub b : s.b < 65521
