-- Bytes placed part after part are one run: each part starts where the run before it ends.
use mathlib.Core.Path.{◌≡◌, ap, ◌∙◌}
use mathlib.Core.List.{List, ◌++◌}
use Prim.Native.Nat.{ℕ, ◌+◌, ◌≤◌}
use native.Mathlib.Omega.{arith}
use lib.ListN.{length, length-append}
use Rattle.lists.specs.Placed.{placed}
use Rattle.lists.proofs.Placed.{placed-after}

-- a run of bytes from a place of b on, n long, in d
abbrev pub Run : List ℕ → ℕ → List ℕ → List ℕ → ℕ → Type 0
Run b at d xs n = (d ≡ placed b at xs) × (length xs ≡ n)

pub run_on : (b d d' xs ys : List ℕ) (at n m k : ℕ) → Run b at d xs n → d' ≡ placed d m ys → m ≡ at + n → length ys ≡ k → m ≤ length b → Run b at d' (xs ++ ys) (n + k)
run_on b d d' xs ys at n m k r e f l h =
    (e ∙ ap (λ (x : List ℕ). placed x m ys) r.0 ∙ placed-after b xs ys at m (omega (arith, f, r.1)) h, simp length-append (omega (arith, r.1, l)))
