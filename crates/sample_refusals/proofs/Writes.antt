-- One write more, and the two kinds of a write.
use Prim.Native.Nat.{ℕ, ◌+◌, ◌*◌, ◌<◌, ◌≤◌}
use mathlib.Core.Path.{◌≡◌, sym, ap, ◌∙◌}
use mathlib.Core.List.{List}
use native.Mathlib.Numerals.{add-one}
use native.Mathlib.Omega.{arith}
use borrow.Author.Tests.{lt-ltb, le-ltb}
use lib.ListN.{get_or}
use Rattle.lists.proofs.Cond.{if-true, if-false}
use Rattle.state.specs.declared.State.{State}
use Rattle.state.specs.declared.Answer.{Answer}
use Rattle.registers.specs.Registers.{write_register, write_port}
use Rattle.sample_refusals.specs.States.{entry_written, after_writes}

pub write-more : (ws : List ℕ) (n : ℕ)
    → after_writes ws (n + 1) ≡ entry_written (after_writes ws n) (get_or ws (n * 3) 0) (get_or ws (n * 3 + 1) 0) (get_or ws (n * 3 + 2) 0)
unfolding after_writes
write-more ws n = rw add-one

module _ (s : State) (high low v n : ℕ) (e : n ≡ high * 256 + low) where
  pub register-entered : (a : Answer) → n < 0xFE → a ≡ write_register s low v → a.state ≡ entry_written s high low v
  unfolding entry_written
  register-entered a h w = ap (λ (x : Answer). x.state) w ∙ sym (if-true _ _ _ (lt-ltb (high * 256 + low) 0xFE (omega arith)))

  pub port-entered : (a : Answer) → 0xFE ≤ n → a ≡ write_port s n v → a.state ≡ entry_written s high low v
  unfolding entry_written
  port-entered a h w =
      ap (λ (x : Answer). x.state) w ∙ ap (λ (k : ℕ). (write_port s k v).state) e ∙ sym (if-false _ _ _ (le-ltb (high * 256 + low) 0xFE (omega arith)))
