-- The first x pixels are there, each stored twice.
use Rattle.std.proofs.Common.{◌≡◌, ℕ, ◌+◌, ◌*◌, ◌/◌, get_or, take}
use Rattle.lists.specs.Tab.{tab}
use Rattle.line_tiles.proofs.compose.double_dots.Given as goal

abbrev pub invariant-loop-x : goal.invariant-loop-x
invariant-loop-x l = take (l.x * 2) l.dots ≡ tab (λ (k : ℕ). get_or l.row (l.skew + k / 2) 0) (l.x * 2)
