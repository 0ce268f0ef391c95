-- Replies that are not 4, since they have another number.
use mathlib.Core.Path.{◌≡◌, refl, sym, ap, ◌∙◌}
use mathlib.Core.Bool.{Bool, true, false, cond}
use lib.Dec.{eqb}
use borrow.Author.Tests.{eqb-false}
use Rattle.reply.specs.Reply.{reply_number}
use Rattle.reply.specs.declared.Reply.{Reply}
use Rattle.reply.specs.declared.Reply.TheVariants.{Done, NotLawful}

abbrev pub NotFour : Reply → Type 0
NotFour r = r ≡ NotLawful → ⊥

pub other : (r : Reply) → eqb (reply_number r) 4 ≡ false → NotFour r
other r e d = eqb-false (reply_number r) 4 e (ap reply_number d)

pub same-not-four : (q r : Reply) → q ≡ r → NotFour r → NotFour q
same-not-four q r e h d = h (sym e ∙ d)

pub done-not-four : NotFour Done
done-not-four = other Done refl

-- a test, and a test after another, that refuse by other numbers
pub test-not-four : (t : Bool) (q r : Reply) → NotFour q → NotFour r → NotFour (cond t q r)
test-not-four true q r h k = h
test-not-four false q r h k = k

pub piece-not-four : (t : Bool) (r : Reply) → NotFour r → NotFour (cond t Done r)
piece-not-four t r h = test-not-four t Done r done-not-four h

pub two-not-four : (t u : Bool) (q r : Reply) → NotFour q → NotFour r → NotFour (cond t (cond u Done q) r)
two-not-four t u q r h k = test-not-four t (cond u Done q) r (piece-not-four u q h) k
