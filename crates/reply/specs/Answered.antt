-- Rules 9.0, 10.9 and 12.6: the reply and the value of a call that answers a value or a refusal.
use Rattle.std.specs.Prelude.{ℕ, Result, Ok, Err}
use Rattle.reply.specs.declared.Reply.{Reply}
use Rattle.reply.specs.declared.Reply.TheVariants.{Done}

-- done where there is a value, else the refusal
abbrev pub reply_of : {A : Type 0} → Result A Reply → Reply
reply_of (Ok x) = Done
reply_of (Err r) = r

-- a number, 0 where it is refused
abbrev pub value_of : Result ℕ Reply → ℕ
value_of (Ok v) = v
value_of (Err r) = 0
