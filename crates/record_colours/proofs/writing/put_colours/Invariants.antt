-- The bytes of the first i colours are placed.
use mathlib.Core.Path.{◌≡◌}
use lib.ListN.{take}
use Rattle.lists.specs.Placed.{placed}
use Rattle.record_layout.specs.Fields.{pair, row_bytes}
use Rattle.record_colours.proofs.writing.put_colours.Given as goal

abbrev pub invariant-loop-i : goal.invariant-loop-i
invariant-loop-i l = l.target ≡ placed l.initial.target l.at (row_bytes pair (take l.i l.src))
