-- Rules 17.8 and 17.9: lines 0 to 255 one after the other. Each is the line asked for alone, of the same state.
use Rattle.std.specs.Prelude.{ℕ, ◌*◌, List, take, drop}
use Rattle.lists.specs.Tab.{tab}
use Rattle.lists.specs.Rows.{rows}
use Rattle.reply.specs.Reply.{reply_number}
use Rattle.state.specs.declared.State.{State}
use Rattle.surface.specs.Lines.{numbered}
use Rattle.trace_runs.specs.Runs.{after}
use Rattle.trace_replies.specs.Replies.{run_reply}
use Rattle.trace.specs.Lines.{run_dots}

-- line L's 640 numbers of 163,840
abbrev pub line_of : ℕ → List ℕ → List ℕ
line_of L dots = take 640 (drop (L * 640) dots)

-- line L's numbers, reply and place: those of the line alone
abbrev pub carried_line : State → List ℕ → List ℕ → List ℕ → List ℕ → ℕ → List ℕ
carried_line s t ula tile dots L = run_dots (after s t L) ula tile (numbered L) (line_of L dots)

abbrev pub carried_reply : State → List ℕ → ℕ → ℕ
carried_reply s t L = reply_number (run_reply (after s t L))

abbrev pub carried_place : State → List ℕ → ℕ → ℕ
carried_place s t L = (after s t L).place

-- 163,840 numbers, 256 replies and 256 places
unfoldable pub carried_dots : State → List ℕ → List ℕ → List ℕ → List ℕ → List ℕ
carried_dots s t ula tile dots = rows (carried_line s t ula tile dots) 256

unfoldable pub carried_replies : State → List ℕ → List ℕ
carried_replies s t = tab (carried_reply s t) 256

unfoldable pub carried_places : State → List ℕ → List ℕ
carried_places s t = tab (carried_place s t) 256
