-- The loop of `named`: the firsts among the entries looked at.
use Rattle.sample_sheets.specs.Counted.{is_first}
use Rattle.sample_sheets.proofs.Steps.{first_more, first-same}
use Rattle.pack_rule.specs.Sheet.{named}
use Rattle.lists.specs.Search.{firsts}
use borrow.Author.Tests.{not-true, not-false}
use mathlib.Core.Path.{◌≡◌, refl, sym, ap, ◌∙◌}
use native.Mathlib.Omega.{arith}
use borrow.Author.Rules.{rules}
use Rattle.sample_sheets.proofs.named.named.Goals as goal
use Rattle.sample_sheets.proofs.named.named.Goals.{then-is_first, else-is_first}

pub loop-c-init : goal.loop-c-init
unfolding firsts
loop-c-init c = (search rules, search rules, refl)

pub loop-c-preserved : goal.loop-c-preserved
unfolding is_first
loop-c-preserved c =
    let h = c.loop-c in
    let e = c.is_first.ensures in
    elim c.if-is_first.branch [
      | then-is_first w ↦ (omega arith, omega arith, first_more _ h.c h.n _ h.invariant.2 (not-true _ (sym e ∙ w.if-is_first.true)) (omega arith))
      | else-is_first w ↦ (omega arith, omega arith, first-same _ h.c h.n _ h.invariant.2 (not-false _ (sym e ∙ w.if-is_first.false)) (omega arith))
    ]

pub returns : goal.returns
unfolding named
returns c =
    let h = c.loop-c in
    let e : h.c ≡ 1280 = omega arith in
    h.invariant.2 ∙ ap (firsts _) e
