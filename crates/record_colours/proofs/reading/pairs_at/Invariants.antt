-- The first i pairs are read.
use mathlib.Core.Path.{◌≡◌}
use lib.ListN.{length}
use Rattle.record_colours.specs.LowFirst.{AllLowFirst}
use Rattle.record_colours.proofs.reading.pairs_at.Given as goal

abbrev pub invariant-loop-i : goal.invariant-loop-i
invariant-loop-i l = (length l.pairs ≡ 256) × AllLowFirst l.b l.at l.pairs l.i
