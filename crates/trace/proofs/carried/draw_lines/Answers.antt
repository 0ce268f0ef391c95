-- The lines below this one are filled, and the run has passed no more than the entries that are due.
use Prim.Native.Nat.{ℕ, ◌+◌, ◌*◌, ◌-◌, zero-le}
use mathlib.Core.Path.{◌≡◌, sym, ap, subst, ◌∙◌}
use native.Mathlib.Omega.{arith}
use borrow.Author.Rules.{rules}
use borrow.Author.Tests.{le-leb}
use lib.ListN.{length-take, length-drop}
use Rattle.record_layout.proofs.Arguments.{argument-typed}
use Rattle.trace_runs.specs.Runs.{begun}
use Rattle.trace_runs.specs.Bounds.{first}
use Rattle.trace_runs.proofs.Through.{reach-more, first-none}
use Rattle.trace.proofs.Kept.{begins, run_after, run_lawful}
use Rattle.trace.proofs.Filled.{Filled, fill_none, fill_more, fill_done}
use Rattle.trace.proofs.carried.draw_lines.Goals as goal

pub loop-line-init : goal.loop-line-init
loop-line-init c =
    let p = c.requires in
    (zero-le, begins c.args.s _ _ c.begin-run.ensures c.palettes_of-p.ensures ∙ first-none _ _, fill_none _ _ _ _ _ _ _ p.4 p.5 p.6)

pub try_due-requires : goal.try_due-requires
try_due-requires c = (c.requires.0, c.loop-line.invariant.0)

pub draw_run-r-requires : goal.draw_run-r-requires
draw_run-r-requires c =
    let h = c.loop-line in
    let t = c.args.trace.now in
    let s = c.args.s in
    let same = run_after s t h.line _ c.requires.0.rise (c.try_due.ensures.1 (begun s) h.invariant.1) in
    let w = c.loop-line-test.true in
    (run_lawful s t h.line _ c.requires.0 c.requires.1 (argument-typed s c.well_formed.1.1.0) same, le-leb h.line 255 (omega (arith, w)), c.requires.2, c.requires.3, simp (length-take, length-drop) (omega (arith, h.invariant.2.dots_long, w)))

pub loop-line-preserved : goal.loop-line-preserved
loop-line-preserved c =
    let h = c.loop-line in
    let t = c.args.trace.now in
    let s = c.args.s in
    let x = c.try_due.ensures in
    let same = run_after s t h.line _ c.requires.0.rise (x.1 (begun s) h.invariant.1) in
    let e = c.draw_run-r.ensures in
    let w = c.loop-line-test.true in
    (omega (arith, x.0, reach-more t h.line), x.1 (begun s) h.invariant.1 ∙ ap (λ (n : ℕ). first t n (begun s)) (sym x.0), fill_more s _ _ _ _ _ _ _ h.line (h.line * 640 + 640 - h.line * 640) h.invariant.2 (omega (arith, w)) (omega arith) _ _ _ _ same e.1 e.0 c.from.ensures)

pub returns : goal.returns
returns c =
    let h = c.loop-line in
    let a = c.args in
    let l : h.line ≡ 256 = omega arith in
    fill_done a.s a.trace.now _ _ _ _ _ _ (subst (λ (n : ℕ). Filled a.s a.trace.now a.ula.now a.tile.now a.dots.now h.dots h.replies h.places n) l h.invariant.2)
