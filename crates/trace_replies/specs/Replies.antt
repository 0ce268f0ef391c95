-- Rules 9.2, 9.3, 10.15, 10.16, 17.7, 17.9 and 17.13: what a drawing by a trace is refused for. Before any entry is tried a state's own reply is asked, which is 4, or 16, 17 or 18
-- of a state in a lent record; a line by the entries has none.
use Rattle.std.specs.Prelude.{ℕ, List, [], ◌∷◌, cond, ◌&&◌, eqb}
use Rattle.reply.specs.First.{first_of, first_hit}
use Rattle.reply.specs.declared.Reply.{Reply}
use Rattle.reply.specs.declared.Reply.TheVariants.{Done, BankLength, BufferLength}
use Rattle.surface.specs.declared.lines.LineNumber.{LineNumber}
use Rattle.line_replies.specs.Replies.{is_bank, line_reply, lengths_reply, state_reply}
use Rattle.trace_form.specs.Judged.{trace_reply}
use Rattle.trace_runs.specs.Runs.{Run}

-- one line: 1; 2, 3; the state's own reply; 25, 26
unfoldable pub asked_reply : LineNumber → ℕ → ℕ → ℕ → Reply → List ℕ → Reply
asked_reply line ula tile out own t = first_hit (line_reply line ∷ lengths_reply ula tile out ∷ own ∷ trace_reply t ∷ [])

-- 2: a bank not 16,384 long; 3: not 163,840 dots, 256 replies and 256 places
unfoldable pub whole_lengths : ℕ → ℕ → ℕ → ℕ → ℕ → Reply
whole_lengths ula tile dots replies places =
    cond (is_bank ula && is_bank tile) (cond (eqb dots 163840 && eqb replies 256 && eqb places 256) Done BufferLength) BankLength

-- what refuses the whole call: 2, 3; the state's own reply; 25, 26
unfoldable pub whole_reply : ℕ → ℕ → ℕ → ℕ → ℕ → Reply → List ℕ → Reply
whole_reply ula tile dots replies places own t = first_hit (whole_lengths ula tile dots replies places ∷ own ∷ trace_reply t ∷ [])

-- a line by a run: the refused entry's reply; then what the state is refused for, 6, 7, 5, 8
unfoldable pub run_reply : Run → Reply
run_reply r = first_of r.reply (state_reply r.state.ula r.state.tiles r.state.palette r.state.ports)
