-- No more entries are passed than are due, and the run has come as far.
use Prim.Native.Nat.{◌≤◌, ◌-◌}
use mathlib.Core.Path.{◌≡◌}
use Rattle.trace_runs.specs.Runs.{Run}
use Rattle.trace_runs.specs.Bounds.{run_with, reach, first}
use Rattle.trace_runs.proofs.runs.try_due.Given as goal

abbrev pub invariant-loop-p : goal.invariant-loop-p
invariant-loop-p l =
    (l.count ≤ reach l.trace l.line) × ((r : Run) → run_with l.fn.run l.fn.p ≡ first l.trace l.fn.count r → run_with l.run l.p ≡ first l.trace l.count r)

abbrev pub decreases-loop-p : goal.decreases-loop-p
decreases-loop-p l = reach l.trace l.line - l.count
