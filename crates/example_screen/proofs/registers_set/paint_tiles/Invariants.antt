-- The loop of `paint_tiles`: the colours of so many palette offsets are written.
use Rattle.example_screen.proofs.Steps.{tile-more}
use Rattle.example_screen.specs.Written.{tile_painted}
use borrow.Author.Rules.{rules}
use native.Mathlib.Omega.{arith}
use mathlib.Core.Path.{◌≡◌, refl, sym}
use Prim.Native.Nat.{◌-◌, ◌≤◌}
use Rattle.example_screen.proofs.registers_set.paint_tiles.Given as goal

abbrev pub invariant-loop-i : goal.invariant-loop-i
invariant-loop-i l = (l.i ≤ 8) × (l.t ≡ tile_painted l.initial.t l.i)

abbrev pub decreases-loop-i : goal.decreases-loop-i
decreases-loop-i l = 8 - l.i
