-- The first i pairs of columns are right, sixteen dots each.
use Rattle.ula_cell.specs.Rows.{hires_chosen}
use Rattle.lists.proofs.Tab.{tab-none, tab-done, tab-part}
use Rattle.lists.specs.Tab.{tab}
use lib.ListN.{length, take}
use mathlib.Core.Path.{◌≡◌}
use Prim.Native.Nat.{◌-◌, ◌*◌, ◌≤◌}
use native.Mathlib.Omega.{arith}
use borrow.Author.Rules.{rules}
use Rattle.ula_display.proofs.rows.hires_row.Given as goal

abbrev pub invariant-loop-i : goal.invariant-loop-i
invariant-loop-i l = (l.i ≤ 32) × (length l.out ≡ 512) × (take (l.i * 16) l.out ≡ tab (hires_chosen l.p l.bit1 l.bit0 l.bank) (l.i * 16))
