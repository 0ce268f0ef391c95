-- The loop of `count_wrong`: the wrong ones among the pixels looked at.
use Rattle.sample_sheets.specs.Counted.{wrong_in}
use Rattle.sample_sheets.proofs.Steps.{count-hit, count-miss}
use Rattle.lists.specs.Search.{count}
use mathlib.Core.Bool.{not}
use mathlib.Core.Path.{◌≡◌, refl, sym, ap, ◌∙◌}
use native.Mathlib.Omega.{arith}
use borrow.Author.Rules.{rules}
use Rattle.sample_sheets.proofs.drawn.count_wrong.Goals as goal
use Rattle.sample_sheets.proofs.drawn.count_wrong.Goals.{then-not-is_right, else-not-is_right}

pub loop-i-init : goal.loop-i-init
unfolding count
loop-i-init c = (search rules, search rules, refl)

pub loop-i-preserved : goal.loop-i-preserved
loop-i-preserved c =
    let h = c.loop-i in
    let e = ap not (sym c.is_right.ensures) in
    elim c.if-not-is_right.branch [
      | then-not-is_right w ↦ (omega arith, omega arith, count-hit _ h.i h.wrong _ h.invariant.2 (e ∙ ap not w.if-not-is_right.true) (omega arith))
      | else-not-is_right w ↦ (omega arith, omega arith, count-miss _ h.i h.wrong _ h.invariant.2 (e ∙ ap not w.if-not-is_right.false) (omega arith))
    ]

pub returns : goal.returns
unfolding wrong_in
returns c =
    let h = c.loop-i in
    let e : h.i ≡ 81920 = omega arith in
    h.invariant.2 ∙ ap (count _) e
