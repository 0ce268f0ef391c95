-- The first i entries are there.
use Rattle.std.proofs.Common.{◌≡◌, ℕ, get_or, take}
use Rattle.lists.specs.Tab.{tab}
use Rattle.line_dots.specs.Shades.{unless_transparent}
use Rattle.line_tiles.proofs.tiles.shade_palette.Given as goal

abbrev pub invariant-loop-i : goal.invariant-loop-i
invariant-loop-i l = take l.i l.out ≡ tab (λ (j : ℕ). unless_transparent l.transparent j (get_or l.pal j 0)) l.i
