-- The first dots are finished, the others are as they were.
use Rattle.std.proofs.Common.{◌≡◌, ℕ, ◌≤◌, get_or, take}
use Rattle.lists.specs.Tab.{tab}
use Rattle.surface.specs.Dots.{top_dot}
use Rattle.line_dots.proofs.dots.cover_line.Given as goal

abbrev pub invariant-loop-dot : goal.invariant-loop-dot
invariant-loop-dot l =
    (take l.dot-index l.out ≡ tab (λ (j : ℕ). top_dot (get_or l.initial.out j 0) l.fallback) l.dot-index)
    × ((j : ℕ) → l.dot-index ≤ j → get_or l.out j 0 ≡ get_or l.initial.out j 0)
