-- The first i bytes are 0.
use Rattle.std.proofs.Common.{◌≡◌, ℕ, take}
use Rattle.lists.specs.Tab.{tab}
use Rattle.lists.proofs.placing.zero.Given as goal

abbrev pub invariant-loop-i : goal.invariant-loop-i
invariant-loop-i l = take l.i l.out ≡ tab (λ (k : ℕ). 0) l.i
