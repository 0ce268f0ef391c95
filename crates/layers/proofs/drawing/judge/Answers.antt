-- What is refused early is the answer; else what is refused late, of lines whose lengths are known.
use lib.ListN.{length}
use mathlib.Core.Path.{sym, ap, ◌∙◌}
use Rattle.reply.specs.Reply.{is_done}
use Rattle.reply.specs.First.{first_hit}
use Rattle.reply.specs.declared.Reply.{Reply}
use Rattle.reply.proofs.Done.{is-done}
use Rattle.reply.proofs.Order.{next-hit}
use Rattle.state.specs.Lawful.{lawful_reply}
use Rattle.layers.specs.Layers.{early_pieces}
use Rattle.layers.proofs.Layers.{lengths-known, refused-late, refused-early}
use borrow.Author.Rules.{rules}
use Rattle.layers.proofs.drawing.judge.Goals as goal

pub layers_reply-requires : goal.layers_reply-requires
layers_reply-requires c =
    let a = c.args in
    let early = c.early_reply-early in
    let lawful = c.lawful_reply-lawful in
    let e = early.ensures ∙ ap (λ (r : Reply). first_hit (early_pieces a.line a.ula a.tile a.out (length a.layer2.now) (length a.sprites.now) r)) lawful.ensures in
    lengths-known a.line a.ula a.tile a.out (length a.layer2.now) (length a.sprites.now) (lawful_reply a.s) (sym e ∙ is-done early.result (sym c.is_done.ensures ∙ c.if-is_done.true))

pub returns-then-is_done : goal.returns-then-is_done
returns-then-is_done c =
    let a = c.args in
    let early = c.early_reply-early in
    let lawful = c.lawful_reply-lawful in
    let e = early.ensures ∙ ap (λ (r : Reply). first_hit (early_pieces a.line a.ula a.tile a.out (length a.layer2.now) (length a.sprites.now) r)) lawful.ensures in
    let d = sym e ∙ is-done early.result (sym c.is_done.ensures ∙ c.if-is_done.true) in
    next-hit _ _ _ _ _ c.state_reply.ensures c.layers_reply.ensures c.first_of.ensures
    ∙ sym (refused-late a.line a.ula a.tile a.out (lawful_reply a.s) a.s a.layer2.now a.sprites.now d)

pub returns-else-is_done : goal.returns-else-is_done
returns-else-is_done c =
    let a = c.args in
    let early = c.early_reply-early in
    let lawful = c.lawful_reply-lawful in
    let e = early.ensures ∙ ap (λ (r : Reply). first_hit (early_pieces a.line a.ula a.tile a.out (length a.layer2.now) (length a.sprites.now) r)) lawful.ensures in
    let z = sym c.is_done.ensures ∙ c.if-is_done.false in
    e ∙ sym (refused-early a.line a.ula a.tile a.out (lawful_reply a.s) a.s a.layer2.now a.sprites.now (ap is_done (sym e) ∙ z))
