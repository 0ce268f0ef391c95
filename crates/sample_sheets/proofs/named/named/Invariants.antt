-- The loop of `named`: the firsts among the entries looked at.
use Rattle.pack_rule.specs.Sheet.{low_byte}
use Rattle.lists.specs.Search.{firsts}
use lib.Dec.{eqb}
use mathlib.Core.Path.{◌≡◌}
use Prim.Native.Nat.{◌≤◌, ◌-◌}
use Rattle.sample_sheets.proofs.named.named.Given as goal

abbrev pub invariant-loop-c : goal.invariant-loop-c
invariant-loop-c l = (l.c ≤ 1280) × (l.n ≤ l.c) × (l.n ≡ firsts (λ i j. eqb (low_byte l.map i) (low_byte l.map j)) l.c)

abbrev pub decreases-loop-c : goal.decreases-loop-c
decreases-loop-c l = 1280 - l.c
