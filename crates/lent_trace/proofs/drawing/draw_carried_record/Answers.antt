-- The state that is read is lawful, and its own reply is the record's.
use lib.ListN.{length}
use mathlib.Core.Path.{ap, ◌∙◌}
use native.Mathlib.Omega.{arith}
use Rattle.line_replies.specs.Replies.{drawn_if}
use Rattle.record_layout.specs.declared.RecordRead.{RecordRead}
use Rattle.trace_replies.specs.Replies.{whole_reply}
use Rattle.trace.specs.Carried.{carried_dots, carried_replies, carried_places}
use Rattle.lent_trace.proofs.Lawful.{read-lawful}
use borrow.Author.Rules.{rules}
use Rattle.lent_trace.proofs.drawing.draw_carried_record.Goals as goal

pub draw_carried_as-requires : goal.draw_carried_as-requires
draw_carried_as-requires c = λ d. read-lawful _ _ (λ i. omega (arith, c.type_inv.bytes i)) c.read_record-read.ensures

pub returns : goal.returns
returns c =
    let a = c.args in
    let q = c.read_record-read.ensures in
    let d = c.draw_carried_as in
    let e = d.ensures in
    (e.0 ∙ ap (λ (x : RecordRead). whole_reply (length a.ula.now) (length a.tile.now) (length a.dots.now) (length a.replies.now) (length a.places.now) x.reply a.trace.now) q, e.1 ∙ ap (λ (x : RecordRead). drawn_if d.result (carried_dots x.state a.trace.now a.ula.now a.tile.now a.dots.now) a.dots.now) q, e.2 ∙ ap (λ (x : RecordRead). drawn_if d.result (carried_replies x.state a.trace.now) a.replies.now) q, e.3 ∙ ap (λ (x : RecordRead). drawn_if d.result (carried_places x.state a.trace.now) a.places.now) q)
