-- The drawing of the state in the record, or refused early (Drawn).
use mathlib.Core.Path.{sym, ◌∙◌}
use Rattle.reply.proofs.Done.{is-done}
use Rattle.lent_drawing.proofs.Drawn.{met, drawn-judged, undrawn}
use borrow.Author.Rules.{rules}
use Rattle.lent_drawing.proofs.drawing.draw_record.Goals as goal

pub draw_judged-requires : goal.draw_judged-requires
draw_judged-requires c =
    let a = c.args in
    let told = c.version_of-v in
    let stored = c.reply_as-stored in
    let early = c.early_reply-early in
    met a.line a.ula.now a.tile.now a.dots.now a.bytes.now told.result told.ensures stored.result stored.ensures early.result early.ensures (is-done early.result (sym c.is_done.ensures ∙ c.if-is_done.true))

pub returns-then-is_done : goal.returns-then-is_done
returns-then-is_done c =
    let a = c.args in
    let told = c.version_of-v in
    let stored = c.reply_as-stored in
    let early = c.early_reply-early in
    let d = c.draw_judged in
    drawn-judged a.line a.ula.now a.tile.now a.dots.now a.bytes.now told.result told.ensures stored.result stored.ensures early.result early.ensures d.result _ (is-done early.result (sym c.is_done.ensures ∙ c.if-is_done.true)) d.ensures.0 d.ensures.1

pub returns-else-is_done : goal.returns-else-is_done
returns-else-is_done c =
    let a = c.args in
    let told = c.version_of-v in
    let stored = c.reply_as-stored in
    let early = c.early_reply-early in
    undrawn a.line a.ula.now a.tile.now a.dots.now a.bytes.now told.result told.ensures stored.result stored.ensures early.result early.ensures (sym c.is_done.ensures ∙ c.if-is_done.false)
