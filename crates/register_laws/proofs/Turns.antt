-- Four stores in turn, a restarted turn and a bit as a number. By cases on the few numbers that there are.
use mathlib.Core.Path.{◌≡◌, refl}
use mathlib.Core.List.{List, [], ◌∷◌}
use mathlib.Core.Bool.{cond}
use Prim.Native.Nat.{ℕ, zero, suc, ◌+◌, ◌≤◌, ◌<◌}
use native.Mathlib.Omega.{arith}
use lib.ListN.{length, set}
use lib.Dec.{eqb}
use borrow.Author.Tests.{eq-eqb, ne_eqb}
use Rattle.lists.proofs.Cond.{if-true, if-false}
use Rattle.register_clips.specs.Clips.{coordinate, next_turn, restarted}
use Rattle.register_laws.specs.Claims.{At}

abbrev pub four_set : List ℕ → ℕ → ℕ → ℕ → ℕ → ℕ → List ℕ
four_set l t a b c d =
    let t1 = next_turn t in
    let t2 = next_turn t1 in
    let t3 = next_turn t2 in
    set (set (set (set l (coordinate t) a) (coordinate t1) b) (coordinate t2) c) (coordinate t3) d

-- four stores in turn, from any coordinate on
pub four : (l : List ℕ) (t a b c d : ℕ) → length l ≡ 4 → t ≤ 3
    → (next_turn (next_turn (next_turn (next_turn t))) ≡ t)
    × At (four_set l t a b c d) t a
    × At (four_set l t a b c d) (t + 1) b
    × At (four_set l t a b c d) (t + 2) c
    × At (four_set l t a b c d) (t + 3) d
four [] t a b c d e l = absurd (omega arith)
four (w ∷ []) t a b c d e l = absurd (omega arith)
four (w ∷ x ∷ []) t a b c d e l = absurd (omega arith)
four (w ∷ x ∷ y ∷ []) t a b c d e l = absurd (omega arith)
four (w ∷ x ∷ y ∷ z ∷ []) zero a b c d e l = (refl, refl, refl, refl, refl)
four (w ∷ x ∷ y ∷ z ∷ []) (suc zero) a b c d e l = (refl, refl, refl, refl, refl)
four (w ∷ x ∷ y ∷ z ∷ []) (suc (suc zero)) a b c d e l = (refl, refl, refl, refl, refl)
four (w ∷ x ∷ y ∷ z ∷ []) (suc (suc (suc zero))) a b c d e l = (refl, refl, refl, refl, refl)
four (w ∷ x ∷ y ∷ z ∷ []) (suc (suc (suc (suc t)))) a b c d e l = absurd (omega arith)
four (w ∷ x ∷ y ∷ z ∷ u ∷ r) t a b c d e l = absurd (omega arith)

pub restart-set : (bit turn : ℕ) → bit ≡ 1 → restarted bit turn ≡ 0
restart-set bit turn e = if-true (eqb bit 1) 0 turn (eq-eqb bit 1 e)

pub restart-clear : (bit turn : ℕ) → bit ≡ 0 → restarted bit turn ≡ turn
restart-clear bit turn e = if-false (eqb bit 1) 0 turn (ne_eqb bit 1 (omega arith))

-- a bit as a number
pub bit-of : (k : ℕ) → k < 2 → cond (eqb k 1) 1 0 ≡ k
bit-of zero l = refl
bit-of (suc zero) l = refl
bit-of (suc (suc k)) l = absurd (omega arith)
