-- Rules 10.15 and 17.7: one line drawn by a trace. A state's own reply is 4; of a state in a lent record it is 16, 17 or 18.
use Rattle.std.specs.Prelude.{ℕ, List, cond, length}
use Rattle.reply.specs.Reply.{is_done}
use Rattle.reply.specs.declared.Reply.{Reply}
use Rattle.state.specs.declared.State.{State}
use Rattle.surface.specs.declared.lines.LineNumber.{LineNumber}
use Rattle.line_replies.specs.Replies.{drawn_if}
use Rattle.line.specs.Lines.{drawn_line}
use Rattle.trace_replies.specs.Replies.{asked_reply, run_reply}
use Rattle.trace_runs.specs.Runs.{Run, after}
use Rattle.trace.specs.declared.alone.Traced.{Traced}

-- the 640 dots of a line by a run, or the line as it was
unfoldable pub run_dots : Run → List ℕ → List ℕ → LineNumber → List ℕ → List ℕ
run_dots r ula tile line out = drawn_if (run_reply r) (drawn_line r.state ula tile line) out

-- its reply, and the place of the refused entry
abbrev pub run_traced : Run → Traced
run_traced r = record { reply = run_reply r; place = r.place }

-- a refusal before entries are tried has place 0
abbrev pub untried : Reply → Traced
untried r = record { reply = r; place = 0 }

-- what is refused before entries are tried; then the line by the state after every entry stamped with it or less
unfoldable pub traced_answer : Reply → LineNumber → List ℕ → List ℕ → List ℕ → State → List ℕ → Traced
traced_answer own line ula tile out s t =
    let q = asked_reply line (length ula) (length tile) (length out) own t in cond (is_done q) (run_traced (after s t line.0)) (untried q)

-- the lent line afterwards
unfoldable pub traced_dots : Reply → LineNumber → List ℕ → List ℕ → List ℕ → State → List ℕ → List ℕ
traced_dots own line ula tile out s t =
    drawn_if (asked_reply line (length ula) (length tile) (length out) own t) (run_dots (after s t line.0) ula tile line out) out
