-- What is left of a byte past the bits of a mask.
use Prim.Native.Nat.{ℕ, zero, suc, ◌+◌, ◌*◌, ◌/◌, ◌≤◌, ◌<◌}
use mathlib.Core.Path.{◌≡◌}
use mathlib.Core.Bool.{true}
use Rattle.register_bounds.specs.Bounds.{is_mask}
use native.Mathlib.Nat.{div-lt_iff_lt-mul}
use native.Mathlib.Omega.{arith}

-- a mask has a bit
pub mask-some : (m : ℕ) → is_mask m ≡ true → 1 ≤ m
mask-some zero e = let z : ◌≡◌ {A = ℕ} 0 1 = cc in absurd (omega arith)
mask-some (suc m) e = omega arith

-- less than 128 of it, past one bit or more
pub past_bound : (a m : ℕ) → a < 256 → 1 ≤ m → a / (m + 1) < 128
past_bound a m h g =
    let p : a < 128 * (m + 1) = omega arith in
    let z : 0 < m + 1 = omega arith in
    (div-lt_iff_lt-mul z).1 p
