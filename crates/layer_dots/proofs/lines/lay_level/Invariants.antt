-- The first k dots are laid, the others are as they were.
use Rattle.std.proofs.Common.{◌≡◌, ℕ, ◌≤◌, get_or, take}
use Rattle.lists.specs.Tab.{tab}
use Rattle.layer_dots.specs.Laid.{level_over}
use Rattle.layer_dots.proofs.lines.lay_level.Given as goal

abbrev pub invariant-loop-k : goal.invariant-loop-k
invariant-loop-k l =
    (take l.k l.row ≡ tab (λ (j : ℕ). level_over l.level l.fallback (get_or l.upper j 0) (get_or l.lower j 0) (get_or l.initial.row j 0)) l.k)
    × ((j : ℕ) → l.k ≤ j → get_or l.row j 0 ≡ get_or l.initial.row j 0)
