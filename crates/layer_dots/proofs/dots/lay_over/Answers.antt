-- The greater of the two, without bit 9.
use Prim.Native.Nat.{ℕ, ◌<◌}
use mathlib.Core.Path.{ap, ◌∙◌}
use native.Mathlib.Omega.{arith}
use Rattle.layer_dots.specs.Laid.{toggled, greater, untagged, over}
use Rattle.layer_dots.proofs.Over.{greater-most}
use borrow.Author.Rules.{rules}
use Rattle.layer_dots.proofs.dots.lay_over.Goals as goal

pub returns : goal.returns
unfolding over
returns c =
    let a = c.args in
    let n = c.greater_of-n.result in
    let e = c.greater_of-n.ensures ∙ ap (λ (m : ℕ). greater m a.below) c.toggle.ensures in
    let t : toggled a.x < 2048 = omega arith in
    let m : greater (toggled a.x) a.below < 2048 = greater-most (toggled a.x) a.below 2048 t (search rules) in
    (ap untagged e, omega arith)
