-- The loop of `sum`: the terms so far.
use Rattle.pack_classes.specs.Mark.{total, mark_term, mark_of}
use native.Mathlib.Numerals.{add-one}
use Prim.Native.Nat.{ℕ, ◌+◌, ◌*◌, ◌≤◌, ◌-◌}
use borrow.Author.Rules.{rules}
use mathlib.Core.Path.{◌≡◌, refl, ap, ap₂, ◌∙◌}
use native.Mathlib.Omega.{arith}
use Rattle.pack_cells.proofs.marks.sum.Goals as goal

pub loop-i-init : goal.loop-i-init
unfolding total
loop-i-init c = (omega arith, refl, omega arith)

pub loop-i-preserved : goal.loop-i-preserved
unfolding total
loop-i-preserved c =
    (omega arith, rw (add-one c.loop-i.i) (ap₂ (λ (x y : ℕ). x + y) c.loop-i.invariant.1 c.mark_term-s.ensures.0), omega arith)

pub returns : goal.returns
unfolding mark_of
returns c =
    let a = c.args in
    let e : c.loop-i.i ≡ 64 = omega arith in
    c.loop-i.invariant.1 ∙ ap (total (mark_term a.cell.now)) e
