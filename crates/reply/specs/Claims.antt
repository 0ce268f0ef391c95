-- Rules 9.13 and 12.6: what no single call states of replies.
use Rattle.std.specs.Prelude.{◌≡◌}
use Rattle.reply.specs.Reply.{reply_number}
use Rattle.reply.specs.declared.Reply.{Reply}

-- the number tells the reply: two replies with one number are the same reply
abbrev pub NumberTells : Type 0
NumberTells = (a b : Reply) → reply_number a ≡ reply_number b → a ≡ b

-- 13 is retired: no reply has its number
abbrev pub NoThirteen : Type 0
NoThirteen = (r : Reply) → reply_number r ≡ 13 → ⊥
