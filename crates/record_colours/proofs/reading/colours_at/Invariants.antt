-- The first colours are read, and the others are still pairs, low byte first; a turn exchanges the bytes of one more.
use mathlib.Core.Path.{◌≡◌}
use Prim.Native.Nat.{ℕ, ◌+◌, ◌*◌, ◌≤◌, ◌<◌}
use lib.ListN.{take, get_or}
use Rattle.record_layout.specs.Fields.{pair, row_at}
use Rattle.record_colours.specs.LowFirst.{LowFirst}
use Rattle.record_colours.proofs.reading.colours_at.Given as goal

abbrev pub invariant-loop-colour : goal.invariant-loop-colour
invariant-loop-colour l =
    (take l.colour-index l.colour-items ≡ row_at pair l.colour-index l.b l.at)
    × ((j : ℕ) → l.colour-index ≤ j → j < 256 → LowFirst (get_or l.b (l.at + 2 * j) 0) (get_or l.b (l.at + 2 * j + 1) 0) (get_or l.colour-items j 0))
