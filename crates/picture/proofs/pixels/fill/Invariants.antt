-- The loop of `fill`: the bytes so far are the first of the line's pixels.
use Rattle.std.proofs.Common.{◌≡◌, take}
use Rattle.lists.specs.Tab.{tab}
use Rattle.picture.specs.Pixels.{pixel_byte}
use Rattle.picture.proofs.pixels.fill.Given as goal

abbrev pub invariant-loop-k : goal.invariant-loop-k
invariant-loop-k l = take l.k l.out ≡ tab (pixel_byte l.dots) l.k
