-- A state whose own reply refuses nothing is lawful.
use mathlib.Core.Path.{refl, sym, ◌∙◌}
use Rattle.reply.specs.declared.Reply.TheVariants.{Done, NotLawful}
use Rattle.reply.proofs.Done.{test-met}
use Rattle.state.specs.Lawful.{lawful_state}
use borrow.Author.Rules.{rules}
use Rattle.trace.proofs.carried.draw_carried.Goals as goal

pub draw_carried_as-requires : goal.draw_carried_as-requires
draw_carried_as-requires c = λ d. (test-met (lawful_state c.args.s) Done NotLawful refl (sym c.lawful_reply-own.ensures ∙ d)).0

pub returns : goal.returns
returns c = rw c.lawful_reply-own.ensures at c.draw_carried_as.ensures
