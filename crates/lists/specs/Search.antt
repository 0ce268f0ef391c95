-- Searches and counts below a number.
use Rattle.std.specs.Prelude.{Bool, true, false, cond, ℕ, zero, suc, ltb, eqb}

-- r where it is below n; else n where it passes p; else suc n
abbrev pub least_next : (ℕ → Bool) → ℕ → ℕ → ℕ
least_next p n r = cond (ltb r n) r (cond (p n) n (suc n))

-- the least i below n that passes p, or n where none does
unfoldable pub least : (ℕ → Bool) → ℕ → ℕ
least p zero = zero
least p (suc n) = least_next p n (least p n)

-- some i below n passes p
abbrev pub some : (ℕ → Bool) → ℕ → Bool
some p n = ltb (least p n) n

-- each i below n passes p
unfoldable pub all : (ℕ → Bool) → ℕ → Bool
all p zero = true
all p (suc n) = cond (p n) (all p n) false

-- how many i below n pass p
unfoldable pub count : (ℕ → Bool) → ℕ → ℕ
count p zero = zero
count p (suc n) = cond (p n) (suc (count p n)) (count p n)

-- how many j below n have no i below j with r i j
unfoldable pub firsts : (ℕ → ℕ → Bool) → ℕ → ℕ
firsts r zero = zero
firsts r (suc n) = cond (some (λ i. r i n) n) (firsts r n) (suc (firsts r n))

-- how many different values f has at the numbers below n
abbrev pub different : (ℕ → ℕ) → ℕ → ℕ
different f n = firsts (λ i j. eqb (f i) (f j)) n
