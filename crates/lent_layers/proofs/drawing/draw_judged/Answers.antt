-- What is refused late is the answer; a line that is not refused is drawn.
use mathlib.Core.Path.{refl, sym, ◌∙◌}
use Rattle.reply.proofs.Done.{is-done}
use Rattle.record_layout.specs.Record.{state_as}
use Rattle.line_replies.proofs.Exits.{drawn, left}
use Rattle.layers.proofs.Layers.{late-met}
use borrow.Author.Rules.{rules}
use Rattle.lent_layers.proofs.drawing.draw_judged.Goals as goal

pub draw_line-requires : goal.draw_line-requires
draw_line-requires c =
    let a = c.args in
    let p = c.requires in
    let r = c.late_reply-r in
    let l = late-met (state_as a.v a.bytes.now) a.layer2.now a.sprites.now (sym r.ensures ∙ is-done r.result (sym c.is_done.ensures ∙ c.if-is_done.true)) in
    (p.0, p.1, p.2, p.3, p.4, p.5, p.6, l.0, l.1)

pub returns-then-is_done : goal.returns-then-is_done
returns-then-is_done c =
    let r = c.late_reply-r in
    (r.ensures, drawn _ _ _ _ _ refl (sym c.is_done.ensures ∙ c.if-is_done.true) c.draw_line.ensures)

pub returns-else-is_done : goal.returns-else-is_done
returns-else-is_done c =
    let r = c.late_reply-r in
    (r.ensures, left _ _ _ _ refl (sym c.is_done.ensures ∙ c.if-is_done.false))
