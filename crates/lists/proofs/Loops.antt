-- The next step of a loop that tests all numbers below another, of one that tests a list of known length, and of one that has found none yet.
use Prim.Native.Nat.{ℕ, ◌+◌, ◌<◌}
use mathlib.Core.Path.{◌≡◌, refl, ap, ◌∙◌}
use mathlib.Core.Bool.{Bool, true, false, cond, ◌&&◌}
use mathlib.Core.List.{List}
use native.Mathlib.Numerals.{add-one}
use native.Mathlib.Omega.{arith}
use lib.ListN.{length, get_or, take}
use lib.Seq.{take_all}
use Rattle.lists.specs.Search.{all}
use Rattle.lists.proofs.Cond.{and-cond}
use Rattle.lists.proofs.Search.{below}

pub all_none : (p : ℕ → Bool) → true ≡ all p 0
unfolding all
all_none p = refl

pub all-next : (p : ℕ → Bool) (k : ℕ) (x ok : Bool) → x ≡ p k → ok ≡ all p k → (x && ok) ≡ all p (k + 1)
unfolding all
all-next p k x ok e f = rw (add-one, e, f) (and-cond (p k) (all p k))

-- a list of n items, of which a loop goes over the first n
module _ (n : ℕ) (xs : List ℕ) (long : length xs ≡ n) where
  whole : take n xs ≡ xs
  whole = take_all n xs (omega (arith, long))

  pub whole-length : length (take n xs) ≡ n
  whole-length = ap (λ (ys : List ℕ). length ys) whole ∙ long

  pub whole-next : (p : ℕ → Bool) (i : ℕ) (ok : Bool) → ok ≡ all (λ j. p (get_or xs j 0)) i
      → (p (get_or (take n xs) i 0) && ok) ≡ all (λ j. p (get_or xs j 0)) (i + 1)
  whole-next p i ok e = all-next (λ j. p (get_or xs j 0)) i _ ok (ap (λ (ys : List ℕ). p (get_or ys i 0)) whole) e

pub none-next : (p : ℕ → Bool) (i : ℕ) → ((k : ℕ) → k < i → p k ≡ false) → p i ≡ false → (k : ℕ) → k < i + 1 → p k ≡ false
none-next p i h e k l = below (λ j. p j ≡ false) i h e k (rw (← add-one i) l)
