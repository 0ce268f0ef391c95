-- The lines below this one are filled, and the run has passed no more than the entries that are due.
use Prim.Native.Nat.{◌≤◌}
use mathlib.Core.Path.{◌≡◌}
use Rattle.trace_runs.specs.Runs.{begun}
use Rattle.trace_runs.specs.Bounds.{run_with, reach, first}
use Rattle.trace.proofs.Filled.{Filled}
use Rattle.trace.proofs.carried.draw_lines.Given as goal

abbrev pub invariant-loop-line : goal.invariant-loop-line
invariant-loop-line l =
    (l.count ≤ reach l.trace l.line) × (run_with l.run l.p ≡ first l.trace l.count (begun l.fn.s))
    × Filled l.fn.s l.trace l.ula l.tile l.initial.dots l.dots l.replies l.places l.line
