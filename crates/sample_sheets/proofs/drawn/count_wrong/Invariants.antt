-- The loop of `count_wrong`: the wrong ones among the pixels looked at.
use Rattle.sample_sheets.specs.Counted.{right_at}
use Rattle.lists.specs.Search.{count}
use mathlib.Core.Bool.{not}
use mathlib.Core.Path.{◌≡◌}
use Prim.Native.Nat.{◌≤◌, ◌-◌}
use Rattle.sample_sheets.proofs.drawn.count_wrong.Given as goal

abbrev pub invariant-loop-i : goal.invariant-loop-i
invariant-loop-i l = (l.i ≤ 81920) × (l.wrong ≤ l.i) × (l.wrong ≡ count (λ k. not (right_at l.picture l.bank l.t k)) l.i)

abbrev pub decreases-loop-i : goal.decreases-loop-i
decreases-loop-i l = 81920 - l.i
