-- The first k dots are laid, the others are as they were.
use Rattle.std.proofs.Common.{◌≡◌, ℕ, ◌<◌, refl, sym, ap, subst, ◌∙◌, get_or, arith}
use Rattle.lists.proofs.Tab.{tab-none, tab-step, tab-done}
use Rattle.line_dots.proofs.Rest.{rest-step}
use Rattle.layer_dots.specs.Laid.{level_over}
use Rattle.layer_dots.proofs.lines.lay_level.Goals as goal

pub loop-k-init : goal.loop-k-init
loop-k-init c = (tab-none _, λ j h. refl)

pub level_over-requires : goal.level_over-requires
level_over-requires c =
    let h = c.loop-k in
    let b = c.requires in
    let k = h.k in
    let in-row : k < 640 = omega (arith, b.row-long) in
    (b.fallback-most, b.upper-most k in-row, b.lower-most k in-row, subst (λ (n : ℕ). n < 2048) (sym (h.invariant.1 k (omega arith))) (b.row-most k in-row))

pub loop-k-preserved : goal.loop-k-preserved
loop-k-preserved c =
    let h = c.loop-k in
    let s = c.args in
    let k = h.k in
    let e = ap (λ (n : ℕ). level_over s.level s.fallback (get_or s.upper.now k 0) (get_or s.lower.now k 0) n) (h.invariant.1 k (omega arith)) in
    (tab-step _ _ _ _ (omega arith) h.invariant.0 (c.level_over.ensures ∙ e), rest-step h.row s.row.now k c.level_over.result h.invariant.1)

pub returns : goal.returns
returns c =
    let e : c.loop-k.k ≡ 640 = omega (arith, c.requires.row-long) in
    tab-done _ _ 640 (omega (arith, c.requires.row-long)) (rw e at c.loop-k.invariant.0)
