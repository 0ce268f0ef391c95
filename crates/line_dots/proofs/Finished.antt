-- The fallback takes the place of a transparent dot, so that what shows is a colour.
use Prim.Native.Nat.{ℕ, ◌≤◌}
use mathlib.Core.Path.{◌≡◌, refl}
use mathlib.Core.Bool.{Bool, true, false, cond}
use native.Mathlib.Omega.{arith}
use lib.Dec.{eqb}
use borrow.Author.Tests.{eqb-false}
use Rattle.surface.specs.Dots.{top_dot}

pub finished-most : (d f : ℕ) → d ≤ 512 → f ≤ 511 → top_dot d f ≤ 511
unfolding top_dot
finished-most d f p q = go (eqb d 512) refl
  where
    go : (b : Bool) → eqb d 512 ≡ b → cond b f d ≤ 511
    go true e = q
    go false e = omega (arith, eqb-false d 512 e)
