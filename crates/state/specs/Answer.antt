-- Rules 1.2 and 10.9: what a call that changes a state answers.
use Rattle.reply.specs.declared.Reply.{Reply}
use Rattle.reply.specs.declared.Reply.TheVariants.{Done}
use Rattle.state.specs.declared.State.{State}
use Rattle.state.specs.declared.Answer.{Answer}

-- done, with the state afterwards
abbrev pub done : State → Answer
done s = record { reply = Done; state = s }

-- refused by r, with the state as it was
abbrev pub refused : Reply → State → Answer
refused r s = record { reply = r; state = s }
