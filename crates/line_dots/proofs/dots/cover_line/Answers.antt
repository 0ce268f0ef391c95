-- The first dots are finished, the others are as they were.
use Rattle.std.proofs.Common.{◌≡◌, ℕ, ap, refl, ◌∙◌, length, length-set, arith, rules}
use Rattle.lists.proofs.Tab.{tab-none, tab-step, tab-done}
use Rattle.surface.specs.Dots.{top_dot}
use Rattle.line_dots.specs.Compose.{finished}
use Rattle.line_dots.proofs.Rest.{rest-step}
use Rattle.line_dots.proofs.dots.cover_line.Goals as goal

pub loop-dot-init : goal.loop-dot-init
loop-dot-init c = (tab-none _, λ j h. refl)

pub loop-dot-preserved : goal.loop-dot-preserved
loop-dot-preserved c =
    let h = c.loop-dot in
    let s = c.args in
    let here = h.invariant.1 h.dot-index (omega arith) in
    (tab-step _ _ _ _ (omega arith) h.invariant.0 (c.top_dot.ensures ∙ ap (λ (v : ℕ). top_dot v s.fallback) here), rest-step h.out s.out.now h.dot-index c.top_dot.result h.invariant.1)

pub returns : goal.returns
unfolding finished
returns c =
    let h = c.loop-dot in
    let e : h.dot-index ≡ 640 = omega arith in
    tab-done _ _ 640 (omega arith) (rw e at h.invariant.0)
