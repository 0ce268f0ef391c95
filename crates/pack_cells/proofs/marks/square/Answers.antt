-- `square` multiplies the remainder, which is at most 15, by itself.
use Rattle.pack_classes.specs.Mark.{square_of}
use native.Mathlib.Nat.{mul-le-mul}
use mathlib.Core.Path.{refl}
use Prim.Native.Nat.{ℕ, ◌*◌, ◌%◌, ◌≤◌}
use native.Mathlib.Omega.{arith}
use Rattle.pack_cells.proofs.marks.square.Goals as goal

small : (b : ℕ) → b % 16 * (b % 16) ≤ 225
small b = let l : b % 16 ≤ 15 = omega arith in mul-le-mul l l

pub overflow_mul-result : goal.overflow_mul-result
overflow_mul-result c = record { fits = omega (arith, small c.args.b) }

pub returns : goal.returns
unfolding square_of
returns c = (refl, small c.args.b)
