-- The loop of `paint_ula`: so many colours are written.
use Rattle.spectrum_colours.proofs.Steps.{ula-more}
use Rattle.spectrum_colours.specs.Colours.{ula_painted}
use borrow.Author.Rules.{rules}
use native.Mathlib.Omega.{arith}
use mathlib.Core.Path.{◌≡◌, refl, sym}
use Prim.Native.Nat.{◌-◌, ◌≤◌}
use Rattle.spectrum_colours.proofs.paint_ula.Given as goal

abbrev pub invariant-loop-i : goal.invariant-loop-i
invariant-loop-i l = (l.i ≤ 32) × (l.t ≡ ula_painted l.initial.t l.i)

abbrev pub decreases-loop-i : goal.decreases-loop-i
decreases-loop-i l = 32 - l.i
