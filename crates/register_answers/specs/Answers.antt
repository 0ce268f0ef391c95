-- Rules 9.4, 9.10, 10.0 and 10.9: what a write and a read answer.
use Rattle.std.specs.Prelude.{ℕ, Bool, cond, Result, Ok, Err}
use Rattle.reply.specs.declared.Reply.{Reply}
use Rattle.reply.specs.declared.Reply.TheVariants.{Done, NotLawful, OutOfBounds}
use Rattle.reply.specs.Reply.{is_done}
use Rattle.state.specs.declared.State.{State}
use Rattle.state.specs.declared.Answer.{Answer}
use Rattle.state.specs.Answer.{done, refused}
use Rattle.state.specs.Lawful.{lawful_state}

-- 10, value outside its bounds: leaves the state, held half too
abbrev pub if_fits : Bool → State → State → Answer
if_fits ok changed s = cond ok (done changed) (refused OutOfBounds s)

-- what a read answers: the byte, or the reply that refuses it
abbrev pub Reading : Type 0
Reading = Result ℕ Reply

-- the reading of a reply and a value
abbrev pub answered : Reply → ℕ → Reading
answered r v = cond (is_done r) (Ok v) (Err r)

-- 4, state not lawful, comes before all other refusals of a write
abbrev pub write_lawful : State → Answer → Answer
write_lawful s a = cond (lawful_state s) a (refused NotLawful s)

-- and of a read
abbrev pub read_lawful : State → Reading → Reading
read_lawful s a = cond (lawful_state s) a (Err NotLawful)
