-- The drawing of the state in the record, or refused early (Lent).
use mathlib.Core.Path.{sym, ◌∙◌}
use Rattle.reply.proofs.Done.{is-done}
use Rattle.lent_layers.proofs.Lent.{met, drawn-judged, undrawn}
use borrow.Author.Rules.{rules}
use Rattle.lent_layers.proofs.drawing.draw_layers_record.Goals as goal

pub draw_judged-requires : goal.draw_judged-requires
draw_judged-requires c =
    let a = c.args in
    let told = c.version_of-v in
    let stored = c.reply_as-stored in
    let first = c.early_reply-early in
    met a.line a.ula.now a.tile.now a.dots.now a.bytes.now a.layer2.now a.sprites.now told.result told.ensures stored.result first.result stored.ensures first.ensures (is-done first.result (sym c.is_done.ensures ∙ c.if-is_done.true))

pub returns-then-is_done : goal.returns-then-is_done
returns-then-is_done c =
    let a = c.args in
    let told = c.version_of-v in
    let stored = c.reply_as-stored in
    let first = c.early_reply-early in
    let d = c.draw_judged in
    drawn-judged a.line a.ula.now a.tile.now a.dots.now a.bytes.now a.layer2.now a.sprites.now told.result told.ensures stored.result first.result stored.ensures first.ensures d.result _ (is-done first.result (sym c.is_done.ensures ∙ c.if-is_done.true)) d.ensures.0 d.ensures.1

pub returns-else-is_done : goal.returns-else-is_done
returns-else-is_done c =
    let a = c.args in
    let told = c.version_of-v in
    let stored = c.reply_as-stored in
    let first = c.early_reply-early in
    undrawn a.line a.ula.now a.tile.now a.dots.now a.bytes.now a.layer2.now a.sprites.now told.result told.ensures stored.result first.result stored.ensures first.ensures (sym c.is_done.ensures ∙ c.if-is_done.false)
