-- The loop of `paint_ula`: so many colours are written.
use Rattle.spectrum_colours.proofs.Steps.{ula-more}
use Rattle.spectrum_colours.specs.Colours.{ula_painted}
use borrow.Author.Rules.{rules}
use native.Mathlib.Omega.{arith}
use mathlib.Core.Path.{◌≡◌, refl, sym}
use Prim.Native.Nat.{◌-◌, ◌≤◌}
use Rattle.spectrum_colours.proofs.paint_ula.Goals as goal

pub loop-i-init : goal.loop-i-init
unfolding ula_painted
loop-i-init c = (search rules, refl)

pub loop-i-preserved : goal.loop-i-preserved
loop-i-preserved c = (search rules, rw (c.set-t.ensures, c.zx_colour.ensures, c.loop-i.invariant.1) (sym (ula-more _ _)))

pub returns : goal.returns
returns c = let e : c.loop-i.i ≡ 32 = omega arith in rw e at c.loop-i.invariant.1
