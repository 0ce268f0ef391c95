-- The dots so far are not transparent.
use mathlib.Core.Path.{◌≡◌}
use mathlib.Core.Bool.{not}
use lib.ListN.{get_or}
use lib.Dec.{eqb}
use Rattle.lists.specs.Search.{all}
use Rattle.line_dots.proofs.dots.is_opaque.Given as goal

abbrev pub invariant-loop-dot : goal.invariant-loop-dot
invariant-loop-dot l = l.ok ≡ all (λ j. not (eqb (get_or l.out j 0) 512)) l.dot-index
