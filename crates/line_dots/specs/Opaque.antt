-- A line without a transparent dot, which needs no fallback. No part of what is drawn.
use Rattle.std.specs.Prelude.{ℕ, List, Bool, not, get_or, eqb}
use Rattle.lists.specs.Search.{all}

unfoldable pub opaque : List ℕ → Bool
opaque row = all (λ k. not (eqb (get_or row k 0) 512)) 640
