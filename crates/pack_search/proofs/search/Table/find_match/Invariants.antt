-- The loop of `find_match`: no cell listed so far makes the cell.
use Rattle.pack_classes.specs.Turned.{can_make}
use mathlib.Core.Bool.{false}
use mathlib.Core.List.{[]}
use lib.ListN.{get_or}
use Prim.Native.Nat.{ℕ, ◌≤◌, ◌<◌}
use mathlib.Core.Path.{◌≡◌}
use Rattle.pack_search.proofs.search.Table.find_match.Given as goal

abbrev pub invariant-loop-k : goal.invariant-loop-k
invariant-loop-k l = (l.k ≤ l.self.count) × ((j : ℕ) → j < l.k → can_make (get_or l.self.pixels j []) l.cell ≡ false)
