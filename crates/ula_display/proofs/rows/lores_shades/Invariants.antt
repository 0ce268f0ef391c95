-- The first c columns are right.
use Rattle.ula_display.specs.Rows.{lores_shade}
use Rattle.lists.specs.Tab.{tab}
use lib.ListN.{take}
use mathlib.Core.Path.{◌≡◌}
use Rattle.ula_display.proofs.rows.lores_shades.Given as goal

abbrev pub invariant-loop-c : goal.invariant-loop-c
invariant-loop-c l = take l.c l.out ≡ tab (lores_shade l.row l.transparent l.pal l.bank) l.c
