-- No more entries are passed than are due, and the run has come as far.
use Prim.Native.Nat.{ℕ}
use mathlib.Core.Path.{◌≡◌, sym, ap, ◌∙◌}
use native.Mathlib.Omega.{arith}
use borrow.Author.Tests.{ltb-true, ltb-false}
use Rattle.trace_form.specs.Entries.{entry_at}
use Rattle.trace_runs.specs.Runs.{tried}
use Rattle.trace_runs.specs.Bounds.{reach, first}
use Rattle.trace_runs.proofs.Through.{reach-within, first_more}
use Rattle.trace_runs.proofs.runs.try_due.Goals as goal

pub loop-p-init : goal.loop-p-init
loop-p-init c = (c.requires.1, λ r e. e)

pub is_due-requires : goal.is_due-requires
is_due-requires c = (c.requires.0.long, c.loop-p.invariant.0)

pub try_next-requires : goal.try_next-requires
try_next-requires c =
    let t = c.args.trace.now in
    let l = ltb-true c.loop-p.count (reach t c.args.line) (sym c.is_due.ensures ∙ c.loop-p-test.true) in
    (c.requires.0.short, omega (arith, l, reach-within t c.args.line))

pub overflow_add-count : goal.overflow_add-count
overflow_add-count c =
    let t = c.args.trace.now in
    let l = ltb-true c.loop-p.count (reach t c.args.line) (sym c.is_due.ensures ∙ c.loop-p-test.true) in
    omega (arith, c.requires.0.short, l, reach-within t c.args.line)

pub loop-p-smaller : goal.loop-p-smaller
loop-p-smaller c = omega (arith, ltb-true c.loop-p.count (reach c.args.trace.now c.args.line) (sym c.is_due.ensures ∙ c.loop-p-test.true))

pub loop-p-preserved : goal.loop-p-preserved
loop-p-preserved c =
    let h = c.loop-p in
    let t = c.args.trace.now in
    let l = ltb-true h.count (reach t c.args.line) (sym c.is_due.ensures ∙ c.loop-p-test.true) in
    (omega (arith, l), λ r e. c.try_next.ensures ∙ ap (tried (entry_at t h.count) h.count) (h.invariant.1 r e) ∙ sym (first_more t h.count r))

pub returns : goal.returns
returns c =
    let h = c.loop-p in
    let t = c.args.trace.now in
    let end : h.count ≡ reach t c.args.line =
    omega (arith, h.invariant.0, ltb-false h.count (reach t c.args.line) (sym c.is_due.ensures ∙ c.loop-p-test.false)) in
    (end, λ r e. h.invariant.1 r e ∙ ap (λ (n : ℕ). first t n r) end)
