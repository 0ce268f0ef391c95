-- A reply is done exactly where its number is 0, since the number tells the reply.
use Prim.Native.Nat.{ℕ}
use mathlib.Core.Path.{◌≡◌, refl, sym, ap, ◌∙◌}
use mathlib.Core.Bool.{Bool, true, false, cond}
use native.Mathlib.Omega.{arith}
use borrow.Author.Tests.{eqb-true, eq-eqb, ne_eqb}
use Rattle.reply.specs.Reply.{reply_number, is_done}
use Rattle.reply.specs.declared.Reply.{Reply}
use Rattle.reply.specs.declared.Reply.TheVariants.{Done}
use Rattle.reply.proofs.Claims.{number_tells}

pub number-done : (r : Reply) → reply_number r ≡ 0 → r ≡ Done
number-done r e = number_tells r Done e

pub done-number : (r : Reply) → r ≡ Done → reply_number r ≡ 0
done-number r e = ap reply_number e

pub is-done : (r : Reply) → is_done r ≡ true → r ≡ Done
is-done r e = number-done r (eqb-true (reply_number r) 0 e)

-- a number that is 0, or is not, tells whether its reply is done
pub done-is : (n : ℕ) (r : Reply) → n ≡ reply_number r → n ≡ 0 → is_done r ≡ true
done-is n r e z = eq-eqb _ _ (sym e ∙ z)

pub not_done : (n : ℕ) (r : Reply) → n ≡ reply_number r → (n ≡ 0 → ⊥) → is_done r ≡ false
not_done n r e z = ne_eqb _ _ (λ q. z (e ∙ q))

pub is-refused : (r : Reply) → (r ≡ Done → ⊥) → is_done r ≡ false
is-refused r n = not_done (reply_number r) r refl (λ z. n (number-done r z))

-- what refuses is not done
pub refused : (r : Reply) → is_done r ≡ false → r ≡ Done → ⊥
refused r e d =
    let h : is_done r ≡ true = ap is_done d in
    let z : ◌≡◌ {A = ℕ} 0 1 = cc in
    omega arith

-- a piece of one test is done where the test holds
pub test-met : (b : Bool) (q r : Reply) → is_done r ≡ false → cond b q r ≡ Done → (b ≡ true) × (q ≡ Done)
test-met true q r e d = (refl, d)
test-met false q r e d = absurd (refused r e d)
