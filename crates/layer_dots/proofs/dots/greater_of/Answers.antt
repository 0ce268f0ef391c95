-- Below 32,768 a number is the same as a signed one.
use Prim.Native.Nat.{ℕ, ◌≤◌, ◌<◌}
use mathlib.Core.Path.{◌≡◌, sym, ap₂, ◌∙◌}
use mathlib.Core.Bool.{true, false}
use lib.Signed.{lt_z}
use mir.Syntax.{w16}
use mir.Val.{to_z}
use mir.Facts.{to_z_pos}
use borrow.Author.Tests.{ltb-true, ltb-false}
use Rattle.layer_dots.proofs.Over.{greater-left, greater-right}
use Rattle.layer_dots.proofs.dots.greater_of.Goals as goal

-- numbers below 32,768 are the signed numbers that they are cast to
less : (a b : ℕ) → a < 32768 → b < 32768 → lt_z (to_z w16 a) (to_z w16 b) ≡ true → a < b
less a b ha hb e = ltb-true a b (sym (ap₂ lt_z (to_z_pos w16 ha) (to_z_pos w16 hb)) ∙ e)

at_least : (a b : ℕ) → a < 32768 → b < 32768 → lt_z (to_z w16 a) (to_z w16 b) ≡ false → b ≤ a
at_least a b ha hb e = ltb-false a b (sym (ap₂ lt_z (to_z_pos w16 ha) (to_z_pos w16 hb)) ∙ e)

pub returns-then-a-b : goal.returns-then-a-b
returns-then-a-b c = sym (greater-right _ _ (less _ _ c.requires.0 c.requires.1 c.if-a-b.true))

pub returns-else-a-b : goal.returns-else-a-b
returns-else-a-b c = sym (greater-left _ _ (at_least _ _ c.requires.0 c.requires.1 c.if-a-b.false))
