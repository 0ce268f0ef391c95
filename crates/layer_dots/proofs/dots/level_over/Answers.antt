-- The three are chosen by tests on the level, and each choice keeps the bound.
use Prim.Native.Nat.{ℕ, ◌<◌}
use mathlib.Core.Path.{◌≡◌, sym, subst, ◌∙◌}
use mathlib.Core.Bool.{Bool, cond}
use lib.Dec.{eqb}
use Rattle.lists.proofs.Cond.{either}
use Rattle.layer_dots.specs.Laid.{three_over, level_over}
use Rattle.layer_dots.proofs.dots.level_over.Goals as goal

module _ (level fallback upper lower u first between second third : ℕ) (f : first ≡ cond (eqb level 2) u upper) (b : between ≡ cond (eqb level 1) u lower)
    (s : second ≡ cond (eqb level 2) upper between) (t : third ≡ cond (eqb level 0) u lower) where
  below : (c : Bool) (x y r : ℕ) → r ≡ cond c x y → x < 2048 → y < 2048 → r < 2048
  below c x y r e hx hy = subst (λ (n : ℕ). n < 2048) (sym e) (either (λ (n : ℕ). n < 2048) c x y hx hy)

  all-below : fallback < 2048 → upper < 2048 → lower < 2048 → u < 2048 → (first < 2048) × (second < 2048) × (third < 2048) × (fallback < 2048)
  all-below hf hu hl h = (
    below (eqb level 2) u upper first f h hu,
    below (eqb level 2) upper between second s hu (below (eqb level 1) u lower between b h hl),
    below (eqb level 0) u lower third t h hl,
    hf,
  )

  in-level : (r : ℕ) → r ≡ three_over first second third fallback → r ≡ level_over level fallback upper lower u
  unfolding level_over
  in-level r e = e ∙ rw (f, s, b, t)

pub three_over-requires : goal.three_over-requires
three_over-requires c =
    let r = c.requires in
    all-below c.args.level c.args.fallback c.args.upper c.args.lower c.args.u _ _ _ _ c.one_of-first.ensures c.one_of.ensures
    c.one_of-second.ensures c.one_of-third.ensures r.0 r.1 r.2 r.3

pub returns : goal.returns
returns c =
    let a = c.args in
    in-level a.level a.fallback a.upper a.lower a.u _ _ _ _ c.one_of-first.ensures c.one_of.ensures
    c.one_of-second.ensures c.one_of-third.ensures _ c.three_over.ensures
