-- What is asked first is met where it refuses nothing.
use mathlib.Core.Path.{sym, ap, ◌∙◌}
use native.Mathlib.Omega.{arith}
use Rattle.lists.proofs.Cond.{if-true, if-false}
use Rattle.reply.specs.Reply.{is_done}
use Rattle.reply.proofs.Done.{is-done}
use Rattle.line_replies.proofs.Exits.{drawn, left}
use Rattle.trace.specs.Lines.{untried, traced_answer, traced_dots}
use Rattle.trace_replies.proofs.Asked.{asked-met}
use Rattle.trace.proofs.Sound.{sound}
use borrow.Author.Rules.{rules}
use Rattle.trace.proofs.alone.draw_traced_as.Goals as goal

pub draw_judged-requires : goal.draw_judged-requires
draw_judged-requires c =
    let m = asked-met _ _ _ _ _ _ (sym c.asked_reply-r.ensures ∙ is-done _ (sym c.is_done.ensures ∙ c.if-is_done.true)) in
    (sound _ (λ i. omega (arith, c.type_inv.trace i)) m.trace, c.requires m.own, m.line, m.ula, m.tile, m.out)

pub returns-then-is_done : goal.returns-then-is_done
unfolding traced_answer traced_dots
returns-then-is_done c =
    let r = c.asked_reply-r in
    let z = sym c.is_done.ensures ∙ c.if-is_done.true in
    let e = c.draw_judged.ensures in
    (e.0 ∙ sym (if-true _ _ _ (ap is_done (sym r.ensures) ∙ z)), drawn _ _ _ _ _ r.ensures z e.1)

pub returns-else-is_done : goal.returns-else-is_done
unfolding traced_answer traced_dots
returns-else-is_done c =
    let r = c.asked_reply-r in
    let z = sym c.is_done.ensures ∙ c.if-is_done.false in
    (ap untried r.ensures ∙ sym (if-false _ _ _ (ap is_done (sym r.ensures) ∙ z)), left _ _ _ _ r.ensures z)
