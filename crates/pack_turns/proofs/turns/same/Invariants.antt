-- The loop of `same`: the rows so far are equal.
use Rattle.pack_turns.specs.Rows.{row_same, rows_same}
use Rattle.tilemap_turns.specs.Turns.{mirrored}
use Rattle.lists.proofs.Search.{all-not, all_of}
use borrow.Author.Tests.{not-true, not-false}
use borrow.Author.Count.{below_none, below_more}
use mathlib.Core.Bool.{Bool, true}
use mathlib.Core.List.{List}
use Prim.Native.Nat.{ℕ, ◌*◌, ◌≤◌, ◌<◌, ◌-◌}
use borrow.Author.Rules.{rules}
use mathlib.Core.Path.{◌≡◌, sym, ◌∙◌}
use native.Mathlib.Omega.{arith}
use Rattle.pack_turns.proofs.turns.same.Given as goal

abbrev pub invariant-loop-y : goal.invariant-loop-y
invariant-loop-y l = (l.y ≤ 8) × ((k : ℕ) → k < l.y → row_same l.«from» (mirrored l.down k * 8) l.back l.cell (k * 8) ≡ true)

abbrev pub decreases-loop-y : goal.decreases-loop-y
decreases-loop-y l = 8 - l.y
