-- What is gathered of two lines is 0 exactly where every number is allowed.
use Prim.Native.Nat.{ℕ, ◌+◌, ◌-◌}
use mathlib.Core.Path.{◌≡◌, refl, ap₂, ◌∙◌}
use mathlib.Core.List.{List}
use mathlib.Core.Bool.{Bool, true, false, cond, ◌&&◌, ◌||◌}
use native.Mathlib.Numerals.{unary_clauses}
use native.Mathlib.Omega.{arith}
use lib.Bits.{bit_or, or_zero_l, or_add_and, and_le_l, and_le_r}
use lib.Dec.{eqb, leb}
use lib.ListN.{get_or}
use borrow.Author.Tests.{eqb-true, eqb-false, leb-true, leb-false, eq-eqb, ne_eqb}
use Rattle.lists.specs.Search.{all}
use Rattle.layer_dots.specs.Numbers.{layer2_allowed, sprite_allowed, both_allowed}
use Rattle.layer_dots.specs.Laid.{toggled}

-- what is above 512, with its bit 9 the other way, is above 512 again exactly where the number is not allowed
pub layer2-excess : (n a t e : ℕ) → a ≡ n - 512 → t ≡ toggled a → e ≡ t - 512 → eqb e 0 ≡ layer2_allowed n
layer2-excess n a t e ea et ee = go (leb n 512) (leb 1024 n) (leb n 1535) refl refl refl
  where
    go : (x y z : Bool) → leb n 512 ≡ x → leb 1024 n ≡ y → leb n 1535 ≡ z → eqb e 0 ≡ (x || y && z)
    go true y z p q r = eq-eqb e 0 (omega (arith, leb-true n 512 p))
    go false true true p q r = eq-eqb e 0 (omega (arith, leb-true 1024 n q, leb-true n 1535 r))
    go false true false p q r = ne_eqb e 0 (λ h. omega (arith, leb-false n 1535 r))
    go false false z p q r = ne_eqb e 0 (λ h. omega (arith, leb-false n 512 p, leb-false 1024 n q))

sprite-excess : (n e : ℕ) → e ≡ n - 512 → eqb e 0 ≡ sprite_allowed n
sprite-excess n e ee = go (leb n 512) refl
  where
    go : (x : Bool) → leb n 512 ≡ x → eqb e 0 ≡ x
    go true p = eq-eqb e 0 (omega (arith, leb-true n 512 p))
    go false p = ne_eqb e 0 (λ h. omega (arith, leb-false n 512 p))

-- two numbers together are 0 where each is
or-none : (a b : ℕ) → eqb (bit_or a b) 0 ≡ (eqb a 0 && eqb b 0)
or-none a b = go (eqb a 0) (eqb b 0) refl refl
  where
    some : bit_or a b ≡ 0 → a + b ≡ 0
    some h = omega (arith, or_add_and a b, and_le_l a b, and_le_r a b)

    go : (x y : Bool) → eqb a 0 ≡ x → eqb b 0 ≡ y → eqb (bit_or a b) 0 ≡ (x && y)
    go true true p q = eq-eqb (bit_or a b) 0 (ap₂ bit_or (eqb-true a 0 p) (eqb-true b 0 q) ∙ or_zero_l 0)
    go true false p q = ne_eqb (bit_or a b) 0 (λ h. eqb-false b 0 q (omega (arith, some h)))
    go false y p q = ne_eqb (bit_or a b) 0 (λ h. eqb-false a 0 p (omega (arith, some h)))

-- one place more
pub allowed-more : (layer2 sprites : List ℕ) (k excess l s : ℕ) → eqb excess 0 ≡ all (both_allowed layer2 sprites) k
    → eqb l 0 ≡ layer2_allowed (get_or layer2 k 0) → s ≡ get_or sprites k 0 - 512 → eqb (bit_or excess (bit_or l s)) 0 ≡ all (both_allowed layer2 sprites) (k + 1)
unfolding all
allowed-more layer2 sprites k excess l s e el es =
    simp unary_clauses
    (or-none excess (bit_or l s) ∙ ap₂ ◌&&◌ e (or-none l s ∙ ap₂ ◌&&◌ el (sprite-excess (get_or sprites k 0) s es))
    ∙ turned (all (both_allowed layer2 sprites) k) (both_allowed layer2 sprites k))
  where
    turned : (x y : Bool) → (x && y) ≡ cond y x false
    turned true true = refl
    turned true false = refl
    turned false true = refl
    turned false false = refl
