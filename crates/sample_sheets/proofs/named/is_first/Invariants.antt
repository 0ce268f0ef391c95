-- The loop of `is_first`: no entry so far has the tile number.
use Rattle.pack_rule.specs.Sheet.{low_byte}
use lib.Dec.{eqb}
use mathlib.Core.Bool.{false}
use mathlib.Core.Path.{◌≡◌}
use Prim.Native.Nat.{ℕ, ◌≤◌, ◌<◌, ◌-◌}
use Rattle.sample_sheets.proofs.named.is_first.Given as goal

abbrev pub invariant-loop-i : goal.invariant-loop-i
invariant-loop-i l = (l.i ≤ l.c) × ((k : ℕ) → k < l.i → eqb (low_byte l.map k) (low_byte l.map l.c) ≡ false)

abbrev pub decreases-loop-i : goal.decreases-loop-i
decreases-loop-i l = l.c - l.i
