-- The eight masks and their counts of ones, by one test that is computed over all bytes.
use Prim.Native.Nat.{ℕ, ◌+◌, ◌^◌, ◌<◌}
use mathlib.Core.Path.{◌≡◌, refl, sym, ◌∙◌}
use mathlib.Core.Bool.{Bool, true, false, cond, not}
use lib.Dec.{eqb, ltb}
use lib.Count.{ones}
use native.Mathlib.Omega.{arith}
use borrow.Author.Tests.{ltb-true, ltb-false, lt-ltb, eq-eqb, eqb-true, ne_eqb}
use Rattle.lists.specs.Search.{all}
use Rattle.lists.proofs.Search.{all-at, and_right, not-both}
use Rattle.register_bounds.specs.Bounds.{is_mask}

-- above 0, and 2 to its count of ones, less 1
solid : ℕ → Bool
solid m = cond (ltb 0 m) (eqb (2 ^ ones m) (m + 1)) false

solid-test : all (λ m. cond (is_mask m) (solid m) (not (solid m))) 256 ≡ true
unfolding all solid ones
solid-test = refl

same : (a b : Bool) → cond a b (not b) ≡ true → a ≡ b
same true true e = refl
same true false e = sym e
same false true e = e
same false false e = refl

-- a byte is a mask just where it is solid
mask-solid : (m : ℕ) → m < 256 → is_mask m ≡ solid m
mask-solid m h = same (is_mask m) (solid m) (all-at _ 256 solid-test m h)

mask-byte : (m : ℕ) → is_mask m ≡ true → m < 256
mask-byte m e = go (ltb m 256) refl
  where
    go : (b : Bool) → ltb m 256 ≡ b → m < 256
    go true t = ltb-true m 256 t
    go false t =
        let far : (n : ℕ) → ltb n 256 ≡ true → eqb m n ≡ false = λ n h. ne_eqb m n (λ q. omega (arith, ltb-false m 256 t, ltb-true n 256 h)) in
        absurd (not-both e (simp far))

-- 2 to a mask's count of ones is the mask and 1
pub mask-ones : (m : ℕ) → is_mask m ≡ true → 2 ^ ones m ≡ m + 1
unfolding solid
mask-ones m e = eqb-true _ _ (and_right (ltb 0 m) _ (sym (mask-solid m (mask-byte m e)) ∙ e))

-- a byte above 0 of which that holds is a mask
pub ones-mask : (m : ℕ) → 0 < m → m < 256 → 2 ^ ones m ≡ m + 1 → is_mask m ≡ true
unfolding solid
ones-mask m p h e = mask-solid m h ∙ rw (lt-ltb 0 m p, eq-eqb _ _ e)
