-- The first k dots are composed, the others are as they were.
use Rattle.std.proofs.Common.{◌≡◌, ℕ, ◌≤◌, get_or, take}
use Rattle.lists.specs.Tab.{tab}
use Rattle.line_dots.specs.Shades.{shade_over}
use Rattle.line_tiles.proofs.compose.compose_dots.Given as goal

abbrev pub invariant-loop-k : goal.invariant-loop-k
invariant-loop-k l =
    (take l.k l.out ≡ tab (λ (j : ℕ). shade_over l.stencil (get_or l.initial.out j 0) (get_or l.dots j 0)) l.k)
    × ((j : ℕ) → l.k ≤ j → get_or l.out j 0 ≡ get_or l.initial.out j 0)
