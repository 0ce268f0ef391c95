-- One number more in a count, and in a count of firsts.
use mathlib.Core.Path.{◌≡◌, ◌∙◌}
use mathlib.Core.Bool.{Bool, true, false}
use Prim.Native.Nat.{ℕ, ◌+◌}
use native.Mathlib.Numerals.{add-one}
use Rattle.lists.specs.Search.{some, count, firsts}

module _ (p : ℕ → Bool) (i n m : ℕ) (e : n ≡ count p i) where
  pub count-hit : p i ≡ true → m ≡ n + 1 → m ≡ count p (i + 1)
  unfolding count
  count-hit h k = k ∙ rw (add-one i, h, ← e, add-one n)

  pub count-miss : p i ≡ false → m ≡ n → m ≡ count p (i + 1)
  unfolding count
  count-miss h k = k ∙ rw (add-one i, h) e

module _ (r : ℕ → ℕ → Bool) (c n m : ℕ) (e : n ≡ firsts r c) where
  pub first_more : some (λ i. r i c) c ≡ false → m ≡ n + 1 → m ≡ firsts r (c + 1)
  unfolding firsts
  first_more h k = k ∙ rw (add-one c, h, ← e, add-one n)

  pub first-same : some (λ i. r i c) c ≡ true → m ≡ n → m ≡ firsts r (c + 1)
  unfolding firsts
  first-same h k = k ∙ rw (add-one c, h) e
