-- The state that is read is lawful, and its own reply is the record's.
use mathlib.Core.Path.{ap, ◌∙◌}
use native.Mathlib.Omega.{arith}
use Rattle.record_layout.specs.declared.RecordRead.{RecordRead}
use Rattle.trace.specs.Lines.{traced_answer, traced_dots}
use Rattle.lent_trace.proofs.Lawful.{read-lawful}
use borrow.Author.Rules.{rules}
use Rattle.lent_trace.proofs.drawing.draw_traced_record.Goals as goal

pub draw_traced_as-requires : goal.draw_traced_as-requires
draw_traced_as-requires c = λ d. read-lawful _ _ (λ i. omega (arith, c.type_inv.bytes i)) c.read_record-read.ensures

pub returns : goal.returns
returns c =
    let a = c.args in
    let e = c.draw_traced_as.ensures in
    (e.0 ∙ ap (λ (x : RecordRead). traced_answer x.reply a.line a.ula.now a.tile.now a.dots.now x.state a.trace.now) c.read_record-read.ensures, e.1 ∙ ap (λ (x : RecordRead). traced_dots x.reply a.line a.ula.now a.tile.now a.dots.now x.state a.trace.now) c.read_record-read.ensures)
