-- The run after the line's entries is lawful, and its line is the answer.
use mathlib.Core.Path.{ap, ◌∙◌}
use Rattle.reply.specs.declared.Reply.{Reply}
use Rattle.record_layout.proofs.Arguments.{argument-typed}
use Rattle.trace_runs.specs.Runs.{Run}
use Rattle.trace_runs.specs.Bounds.{reach, first}
use Rattle.trace.specs.Lines.{run_traced, run_dots}
use Rattle.trace.proofs.Kept.{begins, run_after, run_lawful}
use borrow.Author.Rules.{rules}
use Rattle.trace.proofs.alone.draw_judged.Goals as goal

pub draw_run-reply-requires : goal.draw_run-reply-requires
draw_run-reply-requires c =
    let a = c.args in
    let t = a.trace.now in
    let same =
    run_after a.s t a.line.0 _ c.requires.0.rise (c.after_line-run.ensures ∙ ap (first t (reach t a.line.0)) (begins a.s _ _ c.begin.ensures c.palettes_of-p.ensures)) in
    (run_lawful a.s t a.line.0 _ c.requires.0 c.requires.1 (argument-typed a.s c.well_formed.1.1.1.0) same, c.requires.2, c.requires.3, c.requires.4, c.requires.5)

pub returns : goal.returns
returns c =
    let a = c.args in
    let t = a.trace.now in
    let same =
    run_after a.s t a.line.0 _ c.requires.0.rise (c.after_line-run.ensures ∙ ap (first t (reach t a.line.0)) (begins a.s _ _ c.begin.ensures c.palettes_of-p.ensures)) in
    let d = c.draw_run-reply in
    (ap (λ (q : Reply). record { reply = q; place = c.after_line-run.result.place }) d.ensures.0 ∙ ap run_traced same, d.ensures.1 ∙ ap (λ (r : Run). run_dots r a.ula.now a.tile.now a.line a.out.now) same)
