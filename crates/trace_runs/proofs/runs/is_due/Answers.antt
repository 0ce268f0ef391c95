-- An entry is due where its line is this one or less.
use mathlib.Core.Path.{ap, ◌∙◌}
use native.Mathlib.Omega.{arith}
use Prim.Native.Nat.{ℕ}
use lib.Dec.{leb}
use Rattle.trace_form.specs.declared.entries.Entry.{Entry}
use Rattle.trace_runs.proofs.Through.{due-by, none_left}
use borrow.Author.Rules.{rules}
use Rattle.trace_runs.proofs.runs.is_due.Goals as goal

pub returns-then-count-entry_count : goal.returns-then-count-entry_count
returns-then-count-entry_count c =
    ap (λ (l : ℕ). leb l c.args.line) (c.from.ensures ∙ ap (λ (x : Entry). x.line) c.entry_at-e.ensures)
    ∙ due-by c.args.trace.now c.args.line c.args.count c.requires.1 (omega (arith, c.if-count-entry_count.true, c.entry_count.ensures))

pub returns-else-count-entry_count : goal.returns-else-count-entry_count
returns-else-count-entry_count c =
    none_left c.args.trace.now c.args.line c.args.count (omega (arith, c.if-count-entry_count.false, c.entry_count.ensures))
