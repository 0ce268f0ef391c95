-- The laws of searches and counts: what a search loop must show to have found `least`, `all` and `some` as facts about
-- each number, and that a relation which holds more often has fewer firsts. By induction on the bound.
use mathlib.Core.Path.{◌≡◌, refl, sym, ◌∙◌, subst}
use mathlib.Core.Bool.{Bool, true, false, cond}
use mathlib.Core.Logic.{⊎_elim}
use Prim.Native.Nat.{ℕ, zero, suc, ◌≤◌, ◌<◌, zero-le}
use native.Mathlib.Nat.{le_refl, not-suc-le-zero, eq-or-lt_of_le, le_of_suc-le-suc}
use native.Mathlib.Omega.{arith}
use lib.Dec.{ltb}
use borrow.Author.Tests.{ltb-true, ltb-false}
use Rattle.lists.specs.Search.{least, some, all, firsts}

-- what a search finds: nothing before it passes, and it passes unless it is the end
pub record Found (p : ℕ → Bool) (n r : ℕ) : Type 0 where
  pub inside-or-end : r ≤ n
  pub before : (i : ℕ) → i < r → p i ≡ false
  pub here : r < n → p r ≡ true

-- what holds below n and at n holds below suc n
pub below : (P : ℕ → Type 0) (n : ℕ) → ((k : ℕ) → k < n → P k) → P n → (k : ℕ) → k < suc n → P k
below P n all here k l = ⊎_elim (λ e. subst P (sym e) here) (all k) (eq-or-lt_of_le (le_of_suc-le-suc l))

found-step : (p : ℕ → Bool) (n r : ℕ) → Found p n r → (b : Bool) → ltb r n ≡ b → (q : Bool) → p n ≡ q → Found p (suc n) (cond b r (cond q n (suc n)))
found-step p n r f true e q g = record { inside-or-end = omega (arith, f.inside-or-end); before = f.before; here = λ l. f.here (ltb-true r n e) }
found-step p n r f false e true g =
    record { inside-or-end = omega arith; before = λ i l. f.before i (omega (arith, ltb-false r n e, l)); here = λ l. g }
found-step p n r f false e false g =
    record {
      inside-or-end = le_refl (suc n);
      before = below (λ k. p k ≡ false) n (λ i l. f.before i (omega (arith, ltb-false r n e, l))) g;
      here = λ l. absurd (omega (arith, l));
    }

pub least-found : (p : ℕ → Bool) (n : ℕ) → Found p n (least p n)
unfolding least
least-found p zero = record { inside-or-end = zero-le; before = λ i l. absurd (not-suc-le-zero l); here = λ l. absurd (not-suc-le-zero l) }
least-found p (suc n) = found-step p n (least p n) (least-found p n) (ltb (least p n) n) refl (p n) refl

pub not-both : {b : Bool} → b ≡ true → b ≡ false → ⊥
not-both h k = let z : ◌≡◌ {A = Bool} true false = sym h ∙ k in let w : ◌≡◌ {A = ℕ} 0 1 = cc in omega arith

-- two finds are one
pub found-one : (p : ℕ → Bool) (n r s : ℕ) → Found p n r → Found p n s → r ≡ s
found-one p n r s f g = go (ltb r s) refl (ltb s r) refl
  where
    go : (a : Bool) → ltb r s ≡ a → (b : Bool) → ltb s r ≡ b → r ≡ s
    go true e b h = absurd (not-both (f.here (omega (arith, ltb-true r s e, g.inside-or-end))) (g.before r (ltb-true r s e)))
    go false e true h = absurd (not-both (g.here (omega (arith, ltb-true s r h, f.inside-or-end))) (f.before s (ltb-true s r h)))
    go false e false h = omega (arith, ltb-false r s e, ltb-false s r h)

-- a code's search is `least`
pub least-is : (p : ℕ → Bool) (n r : ℕ) → Found p n r → r ≡ least p n
least-is p n r f = found-one p n r (least p n) f (least-found p n)

pub least-here : (p : ℕ → Bool) (n r : ℕ) → r < n → ((i : ℕ) → i < r → p i ≡ false) → p r ≡ true → r ≡ least p n
least-here p n r l h e = least-is p n r (record { inside-or-end = omega (arith, l); before = h; here = λ k. e })

pub least-none : (p : ℕ → Bool) (n : ℕ) → ((i : ℕ) → i < n → p i ≡ false) → n ≡ least p n
least-none p n h = least-is p n n (record { inside-or-end = le_refl n; before = h; here = λ l. absurd (omega (arith, l)) })

pub least-same : (p q : ℕ → Bool) (n : ℕ) → ((i : ℕ) → i < n → p i ≡ q i) → least p n ≡ least q n
least-same p q n h =
    let f = least-found p n in
    least-is q n (least p n)
    (record { inside-or-end = f.inside-or-end; before = λ i l. sym (h i (omega (arith, l, f.inside-or-end))) ∙ f.before i l; here = λ l. sym (h (least p n) l) ∙ f.here l })

pub some_of : (p : ℕ → Bool) (n i : ℕ) → i < n → p i ≡ true → some p n ≡ true
some_of p n i l h = go (ltb (least p n) n) refl
  where
    go : (b : Bool) → ltb (least p n) n ≡ b → b ≡ true
    go true e = refl
    go false e = absurd (not-both h ((least-found p n).before i (omega (arith, l, ltb-false (least p n) n e))))

pub some-not : (p : ℕ → Bool) (n i : ℕ) → some p n ≡ false → i < n → p i ≡ false
some-not p n i e l = (least-found p n).before i (omega (arith, l, ltb-false (least p n) n e))

pub some_at : (p : ℕ → Bool) (n : ℕ) → some p n ≡ true → (i : ℕ) × (i < n) × (p i ≡ true)
some_at p n e = (least p n, ltb-true (least p n) n e, (least-found p n).here (ltb-true (least p n) n e))

pub and_left : (a b : Bool) → cond a b false ≡ true → a ≡ true
and_left true b e = refl
and_left false b e = e

pub and_right : (a b : Bool) → cond a b false ≡ true → b ≡ true
and_right true b e = e
and_right false b e = absurd (not-both e refl)

pub all-at : (p : ℕ → Bool) (n : ℕ) → all p n ≡ true → (i : ℕ) → i < n → p i ≡ true
unfolding all
all-at p zero e i l = absurd (not-suc-le-zero l)
all-at p (suc n) e i l = below (λ i. p i ≡ true) n (all-at p n (and_right (p n) (all p n) e)) (and_left (p n) (all p n) e) i l

pub all_of : (p : ℕ → Bool) (n : ℕ) → ((i : ℕ) → i < n → p i ≡ true) → all p n ≡ true
unfolding all
all_of p zero h = refl
all_of p (suc n) h = rw (h n (le_refl (suc n))) (all_of p n (λ i l. h i (omega (arith, l))))

-- an answer that is yes where each one below n passes, and only there
pub all-decided : (p : ℕ → Bool) (n : ℕ) (b : Bool) → (b ≡ true → (i : ℕ) → i < n → p i ≡ true)
    → (((i : ℕ) → i < n → p i ≡ true) → b ≡ true) → b ≡ all p n
all-decided p n true f g = sym (all_of p n (f refl))
all-decided p n false f g = go (all p n) refl
  where
    go : (b : Bool) → all p n ≡ b → false ≡ b
    go true e = g (all-at p n e)
    go false e = refl

pub all-not : (p : ℕ → Bool) (n i : ℕ) → i < n → p i ≡ false → all p n ≡ false
all-not p n i l h = go (all p n) refl
  where
    go : (b : Bool) → all p n ≡ b → b ≡ false
    go true e = absurd (not-both (all-at p n e i l) h)
    go false e = refl

-- fewer firsts, where the relation holds more often
firsts-step : (a b : Bool) (m n : ℕ) → m ≤ n → (b ≡ true → a ≡ true) → cond a m (suc m) ≤ cond b n (suc n)
firsts-step true true m n l h = l
firsts-step true false m n l h = omega (arith, l)
firsts-step false true m n l h = absurd (not-both (h refl) refl)
firsts-step false false m n l h = omega (arith, l)

pub firsts-fewer : (r s : ℕ → ℕ → Bool) (n : ℕ)
    → ((j : ℕ) → j < n → some (λ i. s i j) j ≡ true → some (λ i. r i j) j ≡ true) → firsts r n ≤ firsts s n
unfolding firsts
firsts-fewer r s zero h = le_refl 0
firsts-fewer r s (suc n) h =
    firsts-step (some (λ i. r i n) n) (some (λ i. s i n) n) (firsts r n) (firsts s n)
    (firsts-fewer r s n (λ j l. h j (omega (arith, l)))) (h n (le_refl (suc n)))

-- the same, pair by pair
pub firsts-within : (r s : ℕ → ℕ → Bool) (n : ℕ) → ((i j : ℕ) → i < j → j < n → s i j ≡ true → r i j ≡ true) → firsts r n ≤ firsts s n
firsts-within r s n h =
    firsts-fewer r s n
    (λ j l e. let w = some_at (λ i. s i j) j e in some_of (λ i. r i j) j w.0 w.1 (h w.0 j w.1 l w.2))
