-- What is judged first is met where it refuses nothing.
use mathlib.Core.Path.{sym, ◌∙◌}
use native.Mathlib.Omega.{arith}
use Rattle.reply.proofs.Done.{is-done}
use mathlib.Core.Path.{refl}
use Rattle.line_replies.proofs.Exits.{drawn, left}
use Rattle.trace_replies.proofs.Asked.{whole-met}
use Rattle.trace.proofs.Sound.{sound}
use borrow.Author.Rules.{rules}
use Rattle.trace.proofs.carried.draw_carried_as.Goals as goal

pub draw_lines-requires : goal.draw_lines-requires
draw_lines-requires c =
    let m = whole-met _ _ _ _ _ _ _ (sym c.whole_reply-r.ensures ∙ is-done _ (sym c.is_done.ensures ∙ c.if-is_done.true)) in
    (sound _ (λ i. omega (arith, c.type_inv.trace i)) m.trace, c.requires m.own, m.ula, m.tile, m.dots, m.replies, m.places)

pub returns-then-is_done : goal.returns-then-is_done
returns-then-is_done c =
    let r = c.whole_reply-r in
    let z = sym c.is_done.ensures ∙ c.if-is_done.true in
    let e = c.draw_lines.ensures in
    (r.ensures, drawn _ _ _ _ _ refl z e.0, drawn _ _ _ _ _ refl z e.1, drawn _ _ _ _ _ refl z e.2)

pub returns-else-is_done : goal.returns-else-is_done
returns-else-is_done c =
    let r = c.whole_reply-r in
    let z = sym c.is_done.ensures ∙ c.if-is_done.false in
    (r.ensures, left _ _ _ _ refl z, left _ _ _ _ refl z, left _ _ _ _ refl z)
