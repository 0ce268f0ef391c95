-- The sums so far and the dots left give the sums of the line.
use Rattle.std.proofs.Common.{◌≡◌, drop}
use Rattle.line_sums.specs.Adler.{all_added, Small}
use Rattle.line_sums.proofs.adler.line_sum.Given as goal

abbrev pub invariant-loop-dot : goal.invariant-loop-dot
invariant-loop-dot l = (Small l.s) × (all_added (drop l.dot-index l.dots) l.s ≡ all_added l.dots l.initial.s)
