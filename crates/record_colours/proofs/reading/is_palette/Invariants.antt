-- What was seen so far and what is left give the test of the whole palette.
use mathlib.Core.Path.{◌≡◌}
use mathlib.Core.Bool.{◌&&◌}
use lib.ListN.{drop}
use Rattle.state.specs.Lawful.{all_colours}
use Rattle.record_layout.specs.Fields.{pair, row_at}
use Rattle.record_colours.proofs.reading.is_palette.Given as goal

abbrev pub invariant-loop-pair : goal.invariant-loop-pair
invariant-loop-pair l = all_colours (row_at pair 256 l.b l.at) ≡ (l.ok && all_colours (drop l.pair-index (row_at pair 256 l.b l.at)))
