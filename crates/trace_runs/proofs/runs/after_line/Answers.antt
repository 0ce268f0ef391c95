-- The first entries of a run that has passed none.
use Prim.Native.Nat.{zero-le}
use borrow.Author.Rules.{rules}
use Rattle.trace_runs.proofs.Through.{first-none}
use Rattle.trace_runs.proofs.runs.after_line.Goals as goal

pub try_due-requires : goal.try_due-requires
try_due-requires c = (c.requires, zero-le)

pub returns : goal.returns
returns c = c.try_due.ensures.1 _ (first-none _ _)
