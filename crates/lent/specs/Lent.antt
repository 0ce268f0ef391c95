-- Rules 7.10, 9.16 to 9.18 and 10.9 for a state lent as its record: 16, 17 and 18 stand in the place of 4, and a refusal changes no lent byte. What is written
-- back takes the place of what was read, so a change takes records of the version that is written alone; a question takes both.
use Rattle.std.specs.Prelude.{List, cond, ℕ, length, eqb, Err}
use Rattle.reply.specs.declared.Reply.{Reply}
use Rattle.reply.specs.declared.Reply.TheVariants.{Done, BufferLength}
use Rattle.reply.specs.Reply.{is_done}
use Rattle.state.specs.declared.State.{State}
use Rattle.state.specs.declared.Answer.{Answer}
use Rattle.state.specs.Answer.{refused}
use Rattle.state.specs.Reset.{reset_state}
use Rattle.register_answers.specs.Answers.{Reading}
use Rattle.record_layout.specs.Version.{current}
use Rattle.record_layout.specs.Record.{record_length, record_of, read_record, read_current}

-- what a call that changes a state answers on the state in a lent record, or the refusal of the record
unfoldable pub lent_answer : (State → Answer) → List ℕ → Answer
lent_answer call b = let r = read_current b in cond (is_done r.reply) (call r.state) (refused r.reply r.state)

-- the lent record after an answer: the record of the answer's state, or as it was where the answer is a refusal
unfoldable pub lent_after : List ℕ → Answer → List ℕ
lent_after b a = cond (is_done a.reply) (record_of a.state) b

-- what a read answers on the state in a lent record, or the refusal of the record
unfoldable pub lent_reading : (State → Reading) → List ℕ → Reading
lent_reading call b = cond (is_done (read_record b).reply) (call (read_record b).state) (Err (read_record b).reply)

-- reset: 3
abbrev pub reset_reply : List ℕ → Reply
reset_reply b = cond (eqb (length b) (record_length current)) Done BufferLength

-- and the bytes afterwards
abbrev pub reset_in : List ℕ → List ℕ
reset_in b = cond (eqb (length b) (record_length current)) (record_of reset_state) b
