-- The entries below i are judged, and the last line is remembered.
use mathlib.Core.Path.{◌≡◌}
use Prim.Native.Nat.{◌≤◌, ◌-◌}
use Rattle.trace_form.specs.Judged.{line_before}
use Rattle.trace_form.proofs.Judged.{known_below, rising_below}
use Rattle.trace_form.proofs.judge.entries_reply.Given as goal

abbrev pub invariant-loop-i : goal.invariant-loop-i
invariant-loop-i l = (l.i ≤ l.n) × (l.all_known ≡ known_below l.trace l.i) × (l.all_rise ≡ rising_below l.trace l.i) × (l.last ≡ line_before l.trace l.i)
