-- The loop of `cell_bytes`: the first 4 y bytes are right, four for each line.
use Rattle.pack_cells.proofs.Bytes.{byte_at, four-more}
use Rattle.lists.proofs.Tab.{tab-none, tab-done}
use Rattle.lists.specs.Tab.{tab}
use Rattle.pack_classes.specs.Picture.{cell_byte}
use lib.ListN.{length, take, length-set}
use Prim.Native.Nat.{◌*◌, ◌≤◌, ◌-◌}
use borrow.Author.Rules.{rules}
use native.Mathlib.Omega.{arith}
use mathlib.Core.Path.{◌≡◌}
use Rattle.pack_cells.proofs.pixels.cell_bytes.Given as goal

abbrev pub invariant-loop-y : goal.invariant-loop-y
invariant-loop-y l = (l.y ≤ 8) × (length l.out ≡ 32) × (take (l.y * 4) l.out ≡ tab (cell_byte l.pic l.c) (l.y * 4))

abbrev pub decreases-loop-y : goal.decreases-loop-y
decreases-loop-y l = 8 - l.y
