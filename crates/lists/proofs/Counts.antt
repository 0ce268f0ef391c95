-- The laws of a count: it is at most its bound, and below it exactly where one does not pass. By induction on the bound.
use Prim.Native.Nat.{ℕ, zero, suc, ◌≤◌, ◌<◌}
use mathlib.Core.Path.{◌≡◌, refl}
use mathlib.Core.Bool.{Bool, true, false, cond, not}
use native.Mathlib.Omega.{arith}
use native.Mathlib.Nat.{le_refl, not-suc-le-zero}
use lib.Dec.{ltb}
use borrow.Author.Tests.{lt-ltb, le-ltb, not-true, not-false}
use Rattle.lists.specs.Search.{some, count}
use Rattle.lists.proofs.Search.{not-both, below, some_at, some-not}

pub count_most : (p : ℕ → Bool) (n : ℕ) → count p n ≤ n
unfolding count
count_most p zero = le_refl 0
count_most p (suc n) = go (p n) (count_most p n)
  where
    go : (b : Bool) → count p n ≤ n → cond b (suc (count p n)) (count p n) ≤ suc n
    go true h = omega arith
    go false h = omega arith

count-all : (p : ℕ → Bool) (n : ℕ) → ((i : ℕ) → i < n → p i ≡ true) → count p n ≡ n
unfolding count
count-all p zero h = refl
count-all p (suc n) h = rw (h n (le_refl (suc n)), count-all p n (λ i l. h i (omega (arith, l))))

count_less : (p : ℕ → Bool) (n : ℕ) → (i : ℕ) → i < n → p i ≡ false → count p n < n
unfolding count
count_less p zero i l h = absurd (not-suc-le-zero l)
count_less p (suc n) i l h = go (count_less p n) (p n) refl
  where
    go : ((k : ℕ) → k < n → p k ≡ false → count p n < n) → (b : Bool) → p n ≡ b → cond b (suc (count p n)) (count p n) < suc n
    go ih true e =
        below (λ k. p k ≡ false → suc (count p n) < suc n) n (λ k m g. let q = ih k m g in omega arith) (λ g. absurd (not-both e g)) i l h
    go ih false e = let q = count_most p n in omega arith

pub count-some : (p : ℕ → Bool) (n : ℕ) → ltb (count p n) n ≡ some (λ i. not (p i)) n
count-some p n = go (some (λ i. not (p i)) n) refl
  where
    go : (b : Bool) → some (λ i. not (p i)) n ≡ b → ltb (count p n) n ≡ b
    go true e =
        let w = some_at (λ i. not (p i)) n e in
        lt-ltb (count p n) n (count_less p n w.0 w.1 (not-true (p w.0) w.2))
    go false e =
        let q = count-all p n (λ i l. not-false (p i) (some-not (λ i. not (p i)) n i e l)) in
        le-ltb (count p n) n (omega arith)
