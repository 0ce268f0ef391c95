-- The loop of `after`: so many writes are done.
use Rattle.std.proofs.Common.{◌≡◌, ◌/◌, length}
use Rattle.sample_refusals.specs.States.{after_writes}
use Rattle.sample_refusals.proofs.states.after.Given as goal

abbrev pub invariant-loop-i : goal.invariant-loop-i
invariant-loop-i l = (l.i-end ≡ length l.writes / 3) × (l.s ≡ after_writes l.writes l.i)
