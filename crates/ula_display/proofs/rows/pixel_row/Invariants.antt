-- The first i cells are right, sixteen dots each.
use Rattle.ula_cell.specs.Cells.{pixel_dot}
use Rattle.lists.proofs.Tab.{tab-none, tab-done, tab-part}
use Rattle.lists.specs.Tab.{tab}
use lib.ListN.{length, take}
use mathlib.Core.Path.{◌≡◌}
use Prim.Native.Nat.{ℕ, ◌-◌, ◌*◌, ◌/◌, ◌≤◌}
use native.Mathlib.Omega.{arith}
use borrow.Author.Rules.{rules}
use Rattle.ula_display.proofs.rows.pixel_row.Given as goal

abbrev pub invariant-loop-i : goal.invariant-loop-i
invariant-loop-i l = (l.i ≤ 32) × (length l.out ≡ 512) × (take (l.i * 16) l.out ≡ tab (λ (d : ℕ). pixel_dot l.p l.l l.pal l.plus l.bank (d / 2)) (l.i * 16))
