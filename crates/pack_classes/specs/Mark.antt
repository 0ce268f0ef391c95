-- A number that a cell keeps when it is turned, by which most comparisons are skipped. No rule speaks of it.
use Rattle.std.specs.Prelude.{ℕ, zero, suc, ◌+◌, ◌-◌, ◌*◌, ◌/◌, ◌%◌, List, cond, get_or, ltb}

-- f 0 + f 1 + .. + f (n - 1)
unfoldable pub total : (ℕ → ℕ) → ℕ → ℕ
total f zero = 0
total f (suc n) = total f n + f n

-- a coordinate's distance from the nearer edge
abbrev pub edge : ℕ → ℕ
edge v = cond (ltb v 4) v (7 - v)

-- a weight that is the same at (u, v) and (v, u)
abbrev pub weight : ℕ → ℕ → ℕ
weight u v = 1 + 37 * (u + v) + 1009 * u * v

-- the weight of pixel i of 64
unfoldable pub weight_at : ℕ → ℕ
weight_at i = weight (edge (i % 8)) (edge (i / 8))

-- the square of a pixel: with plain pixels, nearly equal cells often have equal marks
unfoldable pub square_of : ℕ → ℕ
square_of v = v % 16 * (v % 16)

-- the mark of a cell of 64 pixels: the squares of its pixels, weighted and added
unfoldable pub mark_term : List ℕ → ℕ → ℕ
mark_term cell i = weight_at i * square_of (get_or cell i 0)

unfoldable pub mark_of : List ℕ → ℕ
mark_of cell = total (mark_term cell) 64
