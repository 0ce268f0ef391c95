-- A write to a register or to a port, by the kind.
use borrow.Author.Tests.{eq-eqb, ne_eqb}
use mathlib.Core.Path.{sym, ◌∙◌}
use Rattle.lists.proofs.Cond.{if-true}
use Rattle.trace_runs.specs.Runs.{applied}
use Rattle.trace_runs.proofs.Tried.{port_applied}
use borrow.Author.Rules.{rules}
use Rattle.trace_runs.proofs.runs.apply.Goals as goal

pub returns-then-e-eq0 : goal.returns-then-e-eq0
unfolding applied
returns-then-e-eq0 c = c.write_apart.ensures ∙ sym (if-true _ _ _ (eq-eqb _ _ c.if-e-eq0.true))

pub returns-else-e-eq0 : goal.returns-else-e-eq0
returns-else-e-eq0 c = port_applied _ _ _ _ _ (ne_eqb _ _ c.if-e-eq0.false) c.port_number.ensures c.write_port_apart.ensures
