-- A part placed in a buffer.
use Rattle.std.specs.Prelude.{ℕ, ◌+◌, List, ◌++◌, length, take, drop}

-- b with ys from place at on
unfoldable pub placed : List ℕ → ℕ → List ℕ → List ℕ
placed b at ys = (take at b ++ ys) ++ drop (at + length ys) b
