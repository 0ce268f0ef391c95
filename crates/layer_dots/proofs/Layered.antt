-- Lent lines whose numbers are allowed: what laying asks of them, and that the line laid is the layered one.
use Prim.Native.Nat.{ℕ, ◌/◌, ◌%◌, ◌≤◌, ◌<◌}
use mathlib.Core.Path.{◌≡◌, sym, subst, ◌∙◌}
use mathlib.Core.List.{List}
use mathlib.Core.Bool.{Bool, true}
use native.Mathlib.Omega.{arith}
use lib.ListN.{length, get_or}
use borrow.Author.Tests.{leb-true}
use Rattle.lists.specs.Tab.{tab}
use Rattle.lists.proofs.Tab.{tab-ext}
use Rattle.lists.proofs.Search.{all-at}
use Rattle.lists.proofs.Cond.{left-true, right-true}
use Rattle.colour.specs.Bytes.{widened}
use Rattle.colour.proofs.Widened.{widened-most}
use Rattle.state.specs.declared.Ula.{Ula}
use Rattle.state_bits.specs.Bits.{layer_order}
use Rattle.layer_dots.specs.Orders.{layered, layered_row}
use Rattle.layer_dots.specs.Numbers.{layer2_allowed, sprite_allowed, both_allowed}
use Rattle.layer_dots.specs.Laid.{level_over, LaidBounds, LayerBounds}
use Rattle.layer_dots.proofs.Over.{by-priority, sprites-upper, layer2-upper}

module _ (order fallback : ℕ) (layer2 sprites row : List ℕ) (b : LayerBounds order layer2 sprites row) (colour : fallback ≤ 511) where
  layer2-allowed : (k : ℕ) → k < 640 → layer2_allowed (get_or layer2 k 0) ≡ true
  layer2-allowed k h = left-true (layer2_allowed (get_or layer2 k 0)) (sprite_allowed (get_or sprites k 0)) (all-at (both_allowed layer2 sprites) 640 b.allowed k h)

  layer2-most : (k : ℕ) → k < 640 → get_or layer2 k 0 < 2048
  layer2-most k h =
      by-priority (λ (p : Bool). get_or layer2 k 0 < 2048) (get_or layer2 k 0) (layer2-allowed k h) (λ g m. omega arith) (λ m. omega arith)

  sprite-most : (k : ℕ) → k < 640 → get_or sprites k 0 ≤ 512
  sprite-most k h =
      leb-true (get_or sprites k 0) 512 (right-true (layer2_allowed (get_or layer2 k 0)) (sprite_allowed (get_or sprites k 0)) (all-at (both_allowed layer2 sprites) 640 b.allowed k h))

  order-most : order ≤ 5
  order-most = leb-true order 5 b.is-order

  -- two lines of the right length whose numbers are below 2,048, one over the other
  laid-bounds : (upper lower : List ℕ) → length upper ≡ 640 → length lower ≡ 640 → ((k : ℕ) → k < 640 → get_or upper k 0 < 2048) → ((k : ℕ) → k < 640 → get_or lower k 0 < 2048)
      → LaidBounds fallback upper lower row
  laid-bounds upper lower lu ll hu hl =
      record {
        fallback-most = omega arith;
        upper_long = lu;
        lower_long = ll;
        row-long = b.row-long;
        upper-most = hu;
        lower-most = hl;
        row-most = λ k h. omega (arith, b.dots k h);
      }

  pub sprites-bounds : LaidBounds fallback sprites layer2 row
  sprites-bounds = laid-bounds sprites layer2 b.sprites-long b.layer2-long (λ k h. omega (arith, sprite-most k h)) layer2-most

  pub layer2-bounds : LaidBounds fallback layer2 sprites row
  layer2-bounds = laid-bounds layer2 sprites b.layer2-long b.sprites-long layer2-most (λ k h. omega (arith, sprite-most k h))

  pub sprites-laid : (out : List ℕ) → order % 2 ≡ 0
      → out ≡ tab (λ (k : ℕ). level_over (order / 2) fallback (get_or sprites k 0) (get_or layer2 k 0) (get_or row k 0)) 640 → out ≡ layered order fallback sprites layer2 row
  unfolding layered
  sprites-laid out e d =
      d ∙ tab-ext _ _ 640 (λ k h.
      sprites-upper fallback colour (get_or layer2 k 0) (layer2-allowed k h) (get_or sprites k 0) (get_or row k 0) (sprite-most k h) (b.dots k h) order order-most e)

  pub layer2-laid : (out : List ℕ) → (order % 2 ≡ 0 → ⊥)
      → out ≡ tab (λ (k : ℕ). level_over (order / 2) fallback (get_or layer2 k 0) (get_or sprites k 0) (get_or row k 0)) 640 → out ≡ layered order fallback sprites layer2 row
  unfolding layered
  layer2-laid out e d =
      d ∙ tab-ext _ _ 640 (λ k h.
      layer2-upper fallback colour (get_or layer2 k 0) (layer2-allowed k h) (get_or sprites k 0) (get_or row k 0) (sprite-most k h) (b.dots k h) order order-most e)

-- by the registers
module _ (u : Ula) (layer2 sprites row : List ℕ) (order fallback : ℕ) (o : order ≡ layer_order u) (f : fallback ≡ widened u.fallback) where
  pub by-registers : u.fallback < 256 → LayerBounds (layer_order u) layer2 sprites row → LayerBounds order layer2 sprites row × (fallback ≤ 511)
  by-registers h b = (subst (λ (n : ℕ). LayerBounds n layer2 sprites row) (sym o) b, rw f (widened-most u.fallback h))

  pub row_laid : (out : List ℕ) → out ≡ layered order fallback sprites layer2 row → out ≡ layered_row u sprites layer2 row
  unfolding layered_row
  row_laid out e = e ∙ rw (o, f)
