-- The loop of `pack_cells`: the progress of the cells packed so far.
use Rattle.pack_entries.specs.Bounds.{Progress}
use Prim.Native.Nat.{◌≤◌}
use Rattle.pack_entries.proofs.entries.pack_cells.Given as goal

abbrev pub invariant-loop-c : goal.invariant-loop-c
invariant-loop-c l = (l.c ≤ 1280) × (l.table.count ≤ l.allowed) × Progress l.pic l.offset l.cells l.table l.map l.c
