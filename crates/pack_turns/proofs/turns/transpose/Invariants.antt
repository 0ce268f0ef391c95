-- The loop of `transpose`: the first i pixels are right.
use Rattle.lists.proofs.Tab.{tab-none, tab-step, tab-done}
use Rattle.lists.specs.Tab.{tab}
use Rattle.pack_turns.specs.Rows.{transpose_of}
use lib.ListN.{length, take, get_or, length-set}
use Prim.Native.Nat.{ℕ, ◌+◌, ◌*◌, ◌/◌, ◌%◌, ◌≤◌, ◌-◌}
use borrow.Author.Rules.{rules}
use native.Mathlib.Omega.{arith}
use mathlib.Core.Path.{◌≡◌, refl}
use Rattle.pack_turns.proofs.turns.transpose.Given as goal

abbrev pub invariant-loop-i : goal.invariant-loop-i
invariant-loop-i l = (l.i ≤ 64) × (length l.out ≡ 64) × (take l.i l.out ≡ tab (λ (k : ℕ). get_or l.cell (k % 8 * 8 + k / 8) 0) l.i)

abbrev pub decreases-loop-i : goal.decreases-loop-i
decreases-loop-i l = 64 - l.i
