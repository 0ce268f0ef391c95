-- The loop of `turn_for`: no turn so far makes the cell.
use Rattle.pack_classes.specs.Turned.{turned_into, turn_for}
use Rattle.lists.proofs.Search.{least-here, least-none}
use borrow.Author.Count.{below_none, below_more}
use mathlib.Core.Bool.{false}
use Prim.Native.Nat.{ℕ, ◌≤◌, ◌<◌, ◌-◌}
use borrow.Author.Rules.{rules}
use mathlib.Core.Path.{◌≡◌, sym, ◌∙◌}
use native.Mathlib.Omega.{arith}
use Rattle.pack_turns.proofs.turns.turn_for.Given as goal

abbrev pub invariant-loop-t : goal.invariant-loop-t
invariant-loop-t l = (l.t ≤ 8) × ((k : ℕ) → k < l.t → turned_into l.«from» l.cell k ≡ false)

abbrev pub decreases-loop-t : goal.decreases-loop-t
decreases-loop-t l = 8 - l.t
