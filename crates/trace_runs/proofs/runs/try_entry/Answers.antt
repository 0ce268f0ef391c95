-- An entry is tried where none was refused.
use mathlib.Core.Path.{sym, ◌∙◌}
use Rattle.lists.proofs.Cond.{if-false}
use Rattle.trace_runs.specs.Runs.{tried}
use Rattle.trace_runs.proofs.Tried.{tried_done}
use borrow.Author.Rules.{rules}
use Rattle.trace_runs.proofs.runs.try_entry.Goals as goal

pub returns-then-is_done : goal.returns-then-is_done
returns-then-is_done c =
    tried_done _ _ _ _ _ _ _ (sym c.is_done.ensures ∙ c.if-is_done.true) c.apply-w.ensures c.told_place-place.ensures

pub returns-else-is_done : goal.returns-else-is_done
unfolding tried
returns-else-is_done c = sym (if-false _ _ _ (sym c.is_done.ensures ∙ c.if-is_done.false))
