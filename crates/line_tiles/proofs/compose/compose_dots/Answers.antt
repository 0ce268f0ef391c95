-- The first k dots are composed, the others are as they were.
use Rattle.std.proofs.Common.{◌≡◌, ℕ, refl, ap, ◌∙◌, get_or, arith}
use Rattle.lists.proofs.Tab.{tab-none, tab-step, tab-done}
use Rattle.line_dots.specs.Shades.{shade_over}
use Rattle.line_dots.proofs.Rest.{rest-step}
use Rattle.line_tiles.proofs.compose.compose_dots.Goals as goal

pub loop-k-init : goal.loop-k-init
loop-k-init c = (tab-none _, λ j h. refl)

pub loop-k-preserved : goal.loop-k-preserved
loop-k-preserved c =
    let h = c.loop-k in
    let s = c.args in
    let here = h.invariant.1 h.k (omega arith) in
    (tab-step _ _ _ _ (omega arith) h.invariant.0 (c.composed_dot.ensures ∙ ap (λ (v : ℕ). shade_over s.stencil v (get_or s.dots.now h.k 0)) here), rest-step h.out s.out.now h.k c.composed_dot.result h.invariant.1)

pub returns : goal.returns
returns c =
    let e : c.loop-k.k ≡ 640 = omega arith in
    tab-done _ _ 640 (omega arith) (rw e at c.loop-k.invariant.0)
