-- The state in the record, then the order and the numbers.
use mathlib.Core.Path.{ap, ◌∙◌}
use mathlib.Core.List.{[], ◌∷◌}
use Rattle.reply.specs.First.{first_hit}
use Rattle.reply.proofs.Order.{next-hit}
use Rattle.state.specs.declared.Ula.{Ula}
use Rattle.layer_dots.specs.Numbers.{order_reply, numbers_reply}
use borrow.Author.Rules.{rules}
use Rattle.lent_layers.proofs.drawing.late_reply.Goals as goal

pub returns : goal.returns
returns c =
    let a = c.args in
    let u = c.ula_at-u in
    let layers = c.layers_reply.ensures ∙ ap (λ (x : Ula). first_hit (order_reply x ∷ numbers_reply a.layer2.now a.sprites.now ∷ [])) u.ensures in
    next-hit _ _ _ _ _ c.state_judged.ensures layers c.first_of.ensures
