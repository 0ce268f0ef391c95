-- The first i bytes are placed.
use Rattle.std.proofs.Common.{◌≡◌, take}
use Rattle.lists.specs.Placed.{placed}
use Rattle.lists.proofs.placing.put.Given as goal

abbrev pub invariant-loop-i : goal.invariant-loop-i
invariant-loop-i l = l.target ≡ placed l.initial.target l.at (take l.i l.src)
