-- A drawing that nothing refuses has met every bound; any other leaves the line.
use lib.ListN.{length}
use mathlib.Core.Path.{refl, sym, ◌∙◌}
use Rattle.reply.proofs.Done.{is-done, test-met}
use Rattle.reply.specs.declared.Reply.TheVariants.{Done, NotLawful}
use Rattle.state.specs.Lawful.{lawful_state, lawful_reply}
use Rattle.line_replies.proofs.Exits.{drawn, left}
use Rattle.layers.proofs.Layers.{both-met, lengths-known, early-met, late-met}
use borrow.Author.Rules.{rules}
use Rattle.layers.proofs.drawing.draw_layers.Goals as goal

pub draw_line-requires : goal.draw_line-requires
draw_line-requires c =
    let a = c.args in
    let r = c.judge-r in
    let m = both-met a.line (length a.ula.now) (length a.tile.now) (length a.out.now) (lawful_reply a.s) a.s a.layer2.now a.sprites.now (sym r.ensures ∙ is-done r.result (sym c.is_done.ensures ∙ c.if-is_done.true)) in
    let e = early-met a.line (length a.ula.now) (length a.tile.now) (length a.out.now) (length a.layer2.now) (length a.sprites.now) (lawful_reply a.s) m.0 in
    let n = lengths-known a.line (length a.ula.now) (length a.tile.now) (length a.out.now) (length a.layer2.now) (length a.sprites.now) (lawful_reply a.s) m.0 in
    let l = late-met a.s a.layer2.now a.sprites.now m.1 in
    ((test-met (lawful_state a.s) Done NotLawful refl e.4).0, e.0, e.1, e.2, e.3, n.0, n.1, l.0, l.1)

pub returns-then-is_done : goal.returns-then-is_done
returns-then-is_done c =
    let r = c.judge-r in
    (r.ensures, drawn _ _ _ _ _ refl (sym c.is_done.ensures ∙ c.if-is_done.true) c.draw_line.ensures)

pub returns-else-is_done : goal.returns-else-is_done
returns-else-is_done c =
    let r = c.judge-r in
    (r.ensures, left _ _ _ _ refl (sym c.is_done.ensures ∙ c.if-is_done.false))
