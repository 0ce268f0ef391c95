-- A reading is told by its reply and its value.
use Prim.Native.Nat.{ℕ}
use mathlib.Core.Path.{◌≡◌, refl, sym, ap, ◌∙◌}
use mathlib.Core.Bool.{Bool, true, false, cond}
use Rattle.std.specs.Prelude.{Ok, Err}
use Rattle.reply.specs.declared.Reply.{Reply}
use Rattle.reply.specs.Reply.{is_done}
use Rattle.reply.proofs.Done.{is-done}
use Rattle.register_answers.specs.Answers.{Reading, answered}
use Rattle.reply.specs.Answered.{reply_of, value_of}

abbrev pub Told : Reading → Type 0
Told a = answered (reply_of a) (value_of a) ≡ a

-- a reading, or a refusal before it
pub told-after : (r : Reply) (a : Reading) → Told a → Told (cond (is_done r) a (Err r))
told-after r a h = go (is_done r) refl
  where
    go : (b : Bool) → is_done r ≡ b → Told (cond b a (Err r))
    go true d = h
    go false d = rw d

-- what a reply and a value tell has that reply
pub reply-told : (a : Reading) (r : Reply) (v : ℕ) → a ≡ answered r v → reply_of a ≡ r
reply-told a r v e = ap reply_of e ∙ go (is_done r) refl
  where
    go : (b : Bool) → is_done r ≡ b → reply_of (cond b (Ok v) (Err r)) ≡ r
    go true d = sym (is-done r d)
    go false d = refl
