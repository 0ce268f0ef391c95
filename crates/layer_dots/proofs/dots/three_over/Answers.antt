-- Each over what shows below it.
use mathlib.Core.Path.{ap, ◌∙◌}
use Prim.Native.Nat.{ℕ, ◌%◌}
use Rattle.layer_dots.specs.Laid.{over, three_over}
use Rattle.layer_dots.proofs.dots.three_over.Goals as goal

pub returns : goal.returns
unfolding three_over
returns c =
    let a = c.args in ap (λ (n : ℕ). n % 512) (c.lay_over-3.ensures.0 ∙ ap (over a.x) (c.lay_over-2.ensures.0 ∙ ap (over a.y) c.lay_over.ensures.0))
