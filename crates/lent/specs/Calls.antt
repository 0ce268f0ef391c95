-- The calls on a state by what they do: the changes of one, and the questions to one.
use Rattle.std.specs.Prelude.{◌<◌}
use Rattle.state.specs.declared.State.{State}
use Rattle.state.specs.declared.Answer.{Answer}
use Rattle.frame.specs.Frame.{next_frame}
use Rattle.register_answers.specs.Answers.{Reading}
use Rattle.registers.specs.Registers.{write_register, write_port, read_register, read_port}
use Rattle.lent.specs.declared.changes.Change.{Change}
use Rattle.lent.specs.declared.changes.Change.TheVariants.{NextFrame, Register, Port}
use Rattle.lent.specs.declared.queries.Query.{Query}
use Rattle.lent.specs.declared.queries.Query.TheVariants as query

-- what a change answers
abbrev pub changed : Change → State → Answer
changed NextFrame s = next_frame s
changed (Register n v) s = write_register s n v
changed (Port n v) s = write_port s n v

-- what a question answers
abbrev pub asked : Query → State → Reading
asked (query.Register n) s = read_register s n
asked (query.Port n) s = read_port s n

-- the value of a change is a byte, as its type says
abbrev pub ByteWritten : Change → Type 0
ByteWritten NextFrame = Unit
ByteWritten (Register n v) = v < 256
ByteWritten (Port n v) = v < 256
