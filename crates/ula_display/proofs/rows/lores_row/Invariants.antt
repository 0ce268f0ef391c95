-- The first d dots are those of their columns.
use Rattle.ula_scroll.specs.Scrolls.{lores_read}
use Rattle.lists.specs.Tab.{tab}
use lib.ListN.{take, get_or}
use mathlib.Core.Path.{◌≡◌}
use Prim.Native.Nat.{ℕ, ◌/◌}
use Rattle.ula_display.proofs.rows.lores_row.Given as goal

abbrev pub invariant-loop-d : goal.invariant-loop-d
invariant-loop-d l = take l.d l.out ≡ tab (λ (d : ℕ). get_or l.shades (lores_read (d / 2) l.p.offset / 2) 0) l.d
