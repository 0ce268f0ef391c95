-- The loop of `paint_tiles`: the colours of so many palette offsets are written.
use Rattle.example_screen.proofs.Steps.{tile-more}
use Rattle.example_screen.specs.Written.{tile_painted}
use borrow.Author.Rules.{rules}
use native.Mathlib.Omega.{arith}
use mathlib.Core.Path.{◌≡◌, refl, sym}
use Prim.Native.Nat.{◌-◌, ◌≤◌}
use Rattle.example_screen.proofs.registers_set.paint_tiles.Goals as goal

pub loop-i-init : goal.loop-i-init
unfolding tile_painted
loop-i-init c = (search rules, refl)

pub loop-i-preserved : goal.loop-i-preserved
loop-i-preserved c =
    (search rules, rw (c.set-t.ensures, c.set-b.ensures, c.zx_colour.ensures, c.set-a.ensures, c.loop-i.invariant.1) (sym (tile-more _ _)))

pub returns : goal.returns
returns c = let e : c.loop-i.i ≡ 8 = omega arith in rw e at c.loop-i.invariant.1
