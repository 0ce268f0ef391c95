-- Rules 6.1, 6.2, 9.10, 10.8 and 12.3: the screen value of a colour.
use Rattle.std.specs.Prelude.{ℕ, ◌+◌, ◌*◌, ◌/◌, ◌%◌, cond, leb, Result, Ok, Err}
use Rattle.reply.specs.declared.Reply.{Reply}
use Rattle.reply.specs.declared.Reply.TheVariants.{OutOfBounds}

-- each three-bit part hml becomes hmlhmlml
abbrev pub eight_bits : ℕ → ℕ
eight_bits v = v * 32 + v * 4 + v % 4

-- value = red × 65,536 + green × 256 + blue
abbrev pub screen_of : ℕ → ℕ
screen_of c = eight_bits (c / 64) * 65536 + eight_bits (c / 8 % 8) * 256 + eight_bits (c % 8)

-- screen value: 10 above 511
unfoldable pub screen_answer : ℕ → Result ℕ Reply
screen_answer c = cond (leb c 511) (Ok (screen_of c)) (Err OutOfBounds)
