-- A widened byte is a nine-bit colour.
use Prim.Native.Nat.{ℕ, ◌+◌, ◌*◌, ◌%◌, ◌≤◌, ◌<◌}
use native.Mathlib.Omega.{arith}
use lib.Dec.{eqb}
use Rattle.lists.proofs.Cond.{either}
use Rattle.colour.specs.Bytes.{widened}

pub widened-most : (b : ℕ) → b < 256 → widened b ≤ 511
unfolding widened
widened-most b h = either (λ (c : ℕ). c ≤ 511) (eqb (b % 4) 0) (b * 2) (b * 2 + 1) (omega arith) (omega arith)
