-- Rules 3.30, 9.4, 10.4 and 12.4: the next frame.
use Rattle.std.specs.Prelude.{ℕ, zero, suc, ◌+◌, ◌%◌, cond}
use Rattle.reply.specs.declared.Reply.TheVariants.{NotLawful}
use Rattle.state.specs.declared.State.{State}
use Rattle.state.specs.declared.Answer.{Answer}
use Rattle.state.specs.Answer.{done, refused}
use Rattle.state.specs.Lawful.{lawful_state}
use Rattle.state.specs.With.{with_frame}

abbrev pub advanced : State → State
advanced s = with_frame s ((s.frame + 1) % 256)

-- next frame: 4
unfoldable pub next_frame : State → Answer
next_frame s = cond (lawful_state s) (done (advanced s)) (refused NotLawful s)

-- the state after n frames
unfoldable pub frames_on : ℕ → State → State
frames_on zero s = s
frames_on (suc n) s = frames_on n (next_frame s).state
