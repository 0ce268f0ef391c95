-- The laws of lines in a row, each w long, that a loop cites which fills a buffer line by line: a line placed at n * w goes
-- on with the first n, what lies after it stays, the whole is right at the end, and each line can be cut out again.
use Prim.Native.Nat.{ℕ, zero, suc, ◌+◌, ◌*◌, ◌≤◌, ◌<◌}
use mathlib.Core.Path.{◌≡◌, refl, sym, ap, ◌∙◌}
use mathlib.Core.List.{List, [], ◌++◌}
use mathlib.Core.Logic.{⊎_elim}
use native.Mathlib.Nat.{zero-mul, suc-mul, mul-le-mul_right, le_refl, eq-or-lt_of_le, le_of_suc-le-suc}
use native.Mathlib.Numerals.{add-one}
use native.Mathlib.Omega.{arith}
use lib.ListN.{length, take, drop, length-append}
use lib.Seq.{take_all, drop_at, drop-drop}
use Rattle.lists.specs.Placed.{placed}
use Rattle.lists.specs.Rows.{rows}
use Rattle.lists.proofs.Cuts.{cut-front}
use Rattle.lists.proofs.Placed.{placed-upto, placed-beyond}

-- nothing written yet
pub rows_none : (f : ℕ → List ℕ) → [] ≡ rows f 0
unfolding rows
rows_none f = refl

-- the whole buffer is right
pub rows-done : (f : ℕ → List ℕ) (l : List ℕ) (n w : ℕ) → length l ≡ n * w → take (n * w) l ≡ rows f n → l ≡ rows f n
rows-done f l n w e p = sym (take_all (n * w) l (omega arith)) ∙ p

-- line n is written, ys
module _ (l ys : List ℕ) (n w : ℕ) (room : n * w + w ≤ length l) (long : length ys ≡ w) where
  next : (n + 1) * w ≡ n * w + length ys
  next = rw (add-one, suc-mul n w, long)

  fits : n * w + length ys ≤ length l
  fits = omega (arith, long, room)

  -- the lines before it were right
  pub rows_more : (f : ℕ → List ℕ) → take (n * w) l ≡ rows f n → ys ≡ f n → take ((n + 1) * w) (placed l (n * w) ys) ≡ rows f (n + 1)
  unfolding rows
  rows_more f e q = rw (next, placed-upto l ys (n * w) fits, e, q, add-one)

  -- what lay after it was as in l₀
  pub rows-rest : (l₀ : List ℕ) → drop (n * w) l ≡ drop (n * w) l₀ → drop ((n + 1) * w) (placed l (n * w) ys) ≡ drop ((n + 1) * w) l₀
  rows-rest l₀ e =
      rw (next, placed-beyond l ys (n * w) fits (n * w + length ys) (le_refl (n * w + length ys)), ← drop-drop (length ys) (n * w) l, e, drop-drop (length ys) (n * w) l₀)

-- lines that are w long each
module _ (f : ℕ → List ℕ) (w : ℕ) where
  pub length-rows : (n : ℕ) → ((k : ℕ) → k < n → length (f k) ≡ w) → length (rows f n) ≡ n * w
  unfolding rows
  length-rows zero long = sym (zero-mul w)
  length-rows (suc n) long =
      let e : length (rows f n) ≡ n * w = length-rows n (λ k l. long k (omega (arith, l))) in
      let d : length (f n) ≡ w = long n (le_refl (suc n)) in
      rw (length-append (rows f n) (f n), e, d, suc-mul n w)

  -- line k
  pub row_at : (n k : ℕ) → ((k : ℕ) → k < n → length (f k) ≡ w) → k < n → take w (drop (k * w) (rows f n)) ≡ f k
  unfolding rows
  row_at zero k long h = absurd (omega (arith, h))
  row_at (suc n) k long h =
      let below : (j : ℕ) → j < n → length (f j) ≡ w = λ j l. long j (omega (arith, l)) in
      let whole : length (rows f n) ≡ n * w = length-rows n below in
      ⊎_elim
      (λ e. ap (λ (j : ℕ). take w (drop (j * w) (rows f n ++ f n))) e ∙ ap (take w) (drop_at (rows f n) (f n) (n * w) whole)
      ∙ take_all w (f n) (omega (arith, long n (le_refl (suc n)))) ∙ ap f (sym e))
      (λ l.
      let m : k * w + w ≤ length (rows f n) = omega (arith, whole, suc-mul k w, mul-le-mul_right w l) in
      cut-front (rows f n) (f n) (k * w) w m ∙ row_at n k below l)
      (eq-or-lt_of_le (le_of_suc-le-suc h))
