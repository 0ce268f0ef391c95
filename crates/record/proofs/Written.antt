-- Record writing: its two refusals in their order, and the target after an answer `r`.
use mathlib.Core.Path.{◌≡◌, refl, sym, ap, ap₂, ◌∙◌}
use mathlib.Core.List.{List}
use mathlib.Core.Bool.{Bool, true, false, cond}
use Prim.Native.Nat.{ℕ}
use lib.ListN.{length}
use lib.Dec.{eqb}
use native.Mathlib.Omega.{arith}
use borrow.Author.Tests.{eqb-true}
use Rattle.lists.proofs.Cond.{if-true, if-false}
use Rattle.reply.specs.declared.Reply.{Reply}
use Rattle.reply.specs.declared.Reply.TheVariants.{Done, BufferLength, NotLawful}
use Rattle.reply.specs.Reply.{reply_number, is_done}
use Rattle.reply.specs.First.{first_of}
use Rattle.reply.proofs.Done.{refused, test-met}
use Rattle.state.specs.declared.State.{State}
use Rattle.state.specs.Lawful.{lawful_state}
use Rattle.record_layout.specs.Version.{current}
use Rattle.record_layout.specs.Record.{record_length, record_of, write_reply, written_in}

ordered : (long lawful : Bool) → first_of (cond long Done BufferLength) (cond lawful Done NotLawful) ≡ cond long (cond lawful Done NotLawful) BufferLength
unfolding first_of
ordered true lawful = refl
ordered false lawful = refl

pub length-first : (long lawful : Bool) (first next r : Reply) → first ≡ cond long Done BufferLength → next ≡ cond lawful Done NotLawful
    → r ≡ first_of first next → r ≡ cond long (cond lawful Done NotLawful) BufferLength
length-first long lawful first next r ef en er = er ∙ ap₂ first_of ef en ∙ ordered long lawful

unput : (long lawful : Bool) (written target : List ℕ) → is_done (cond long (cond lawful Done NotLawful) BufferLength) ≡ false
    → target ≡ cond long (cond lawful written target) target
unput true true written target d = absurd (refused Done d refl)
unput true false written target d = refl
unput false lawful written target d = refl

module _ (target : List ℕ) (s : State) (r : Reply) (er : r ≡ write_reply target s) where
  -- an answer that is not the refusal of the length has met it
  met_length : (r ≡ BufferLength → ⊥) → length target ≡ record_length current
  met_length z = go (eqb (length target) (record_length current)) refl
    where
      go : (b : Bool) → eqb (length target) (record_length current) ≡ b → length target ≡ record_length current
      go true e = eqb-true (length target) (record_length current) e
      go false e = absurd (z (er ∙ if-false (eqb (length target) (record_length current)) _ _ e))

  pub long-enough : r ≡ Done → length target ≡ record_length current
  long-enough d = met_length (λ e. let n : ◌≡◌ {A = ℕ} 0 3 = ap reply_number (sym d ∙ e) in omega arith)

  pub put_whole : (after : List ℕ) → r ≡ Done → after ≡ record_of s → (r ≡ write_reply target s) × (after ≡ written_in target s)
  put_whole after d e =
      let l = test-met (eqb (length target) (record_length current)) (cond (lawful_state s) Done NotLawful) BufferLength refl (sym er ∙ d) in
      let h = (test-met (lawful_state s) Done NotLawful refl l.1).0 in
      (er, e ∙ sym (if-true (eqb (length target) (record_length current)) _ _ l.0 ∙ if-true (lawful_state s) _ _ h))

  pub left_alone : is_done r ≡ false → (r ≡ write_reply target s) × (target ≡ written_in target s)
  left_alone z =
      let f : is_done (write_reply target s) ≡ false = sym (ap is_done er) ∙ z in
      (er, unput (eqb (length target) (record_length current)) (lawful_state s) (record_of s) target f)
