-- The index is below 256, and what is lent there leaves room for the mark.
use Rattle.tilemap.specs.Shades.{shade_from}
use Prim.Native.Nat.{◌+◌}
use native.Mathlib.Omega.{arith}
use mathlib.Core.Path.{refl}
use Rattle.tilemap.proofs.cells.shade_from.Goals as goal

pub overflow_add-result : goal.overflow_add-result
overflow_add-result c = omega (arith, c.requires.0.most (c.args.offset + c.args.pixel) (omega arith))

pub returns : goal.returns
unfolding shade_from
returns c = refl
