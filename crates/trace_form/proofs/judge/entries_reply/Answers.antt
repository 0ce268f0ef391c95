-- Before the first entry nothing is judged.
use mathlib.Core.Path.{refl}
use borrow.Author.Rules.{rules}
use Rattle.lists.specs.Search.{all}
use Rattle.trace_form.proofs.judge.entries_reply.Goals as goal

pub loop-i-init : goal.loop-i-init
unfolding all
loop-i-init c = (search rules, refl, refl, refl)
