-- Rules 17.4, 17.6 and 17.8 to 17.13: what no single call states of drawings by a trace. A statement here is proved by the law of its name in proofs/Claims.antt.
use Rattle.std.specs.Prelude.{ℕ, suc, ◌+◌, ◌≤◌, ◌<◌, ◌≡◌, List, true, false, length, get_or, eqb}
use Rattle.lists.specs.Bytes.{Bytes}
use Rattle.lists.specs.Tab.{tab}
use Rattle.lists.specs.Rows.{rows}
use Rattle.reply.specs.Reply.{is_done, reply_number}
use Rattle.reply.specs.declared.Reply.{Reply}
use Rattle.reply.specs.declared.Reply.TheVariants.{Done, NotLawful}
use Rattle.state.specs.declared.State.{State}
use Rattle.state.specs.Lawful.{lawful_state, lawful_reply}
use Rattle.state.specs.Typed.{Typed}
use Rattle.frame.specs.Frame.{next_frame}
use Rattle.surface.specs.Lines.{numbered}
use Rattle.surface.specs.declared.lines.LineNumber.{LineNumber}
use Rattle.registers.specs.Registers.{write_register, write_port}
use Rattle.line_replies.specs.Replies.{draw_reply, drawn_if}
use Rattle.line.specs.Lines.{drawn_line}
use Rattle.trace_form.specs.declared.entries.Entry.{Entry}
use Rattle.trace_form.specs.Entries.{entry_count, line_at}
use Rattle.trace_form.specs.Judged.{rising, trace_reply}
use Rattle.trace_runs.specs.Runs.{port_number, applied, begun, entries_by, after}
use Rattle.trace.specs.Lines.{run_traced, traced_answer, traced_dots}
use Rattle.trace_replies.specs.Replies.{whole_reply}
use Rattle.trace.specs.Carried.{line_of, carried_dots, carried_replies, carried_places}
use Rattle.lent_trace.specs.Lent.{lent_traced, lent_whole}
use Rattle.trace_laws.specs.Cut.{cut}

-- an entry on a lawful state is the write that the call on a state makes
pub record EntriesWrite : Type 0 where
  pub registers : (s : State) (e : Entry) → lawful_state s ≡ true → e.kind ≡ 0 → applied s e ≡ write_register s e.number e.value
  pub ports : (s : State) (e : Entry) → lawful_state s ≡ true → e.kind ≡ 1 → applied s e ≡ write_port s (port_number e.number) e.value

-- the state is carried along: after line L + 1 it is what it was after line L, and then the entries stamped L + 1, each once
unfoldable pub CarriedAlong : Type 0
CarriedAlong =
    (s : State) (t : List ℕ) → rising t ≡ true
    → (after s t 0 ≡ entries_by (λ l. eqb l 0) t (begun s))
    × ((L : ℕ) → after s t (suc L) ≡ entries_by (λ l. eqb l (suc L)) t (after s t L))

-- carried is asking one by one: where the whole call is not refused, its dots, replies and places are those of each line asked for alone, of
-- the same state
unfoldable pub CarriedAlone : Type 0
CarriedAlone =
    (own : Reply) (s : State) (t ula tile dots : List ℕ) (replies places : ℕ) → whole_reply (length ula) (length tile) (length dots) replies places own t ≡ Done
    → (carried_dots s t ula tile dots ≡ rows (λ L. traced_dots own (numbered L) ula tile (line_of L dots) s t) 256)
    × (carried_replies s t ≡ tab (λ L. reply_number (traced_answer own (numbered L) ula tile (line_of L dots) s t).reply) 256)
    × (carried_places s t ≡ tab (λ L. (traced_answer own (numbered L) ula tile (line_of L dots) s t).place) 256)

-- after a refused entry every later line answers its reply and its place
unfoldable pub RefusedStays : Type 0
RefusedStays =
    (s : State) (t : List ℕ) (L k : ℕ) → rising t ≡ true → is_done (after s t L).reply ≡ false
    → run_traced (after s t (L + k)) ≡ record { reply = (after s t L).reply; place = (after s t L).place }

-- only a refused entry has a place
unfoldable pub PlaceOfRefused : Type 0
PlaceOfRefused = (s : State) (t : List ℕ) (L : ℕ) → is_done (after s t L).reply ≡ true → (after s t L).place ≡ 0

-- a trace without entries draws as the drawer does
unfoldable pub NoEntries : Type 0
NoEntries =
    (line : LineNumber) (ula tile out : List ℕ) (s : State) (t : List ℕ) → trace_reply t ≡ Done → entry_count t ≡ 0
    → (traced_answer (lawful_reply s) line ula tile out s t ≡ record { reply = draw_reply line (length ula) (length tile) (length out) s; place = 0 })
    × (traced_dots (lawful_reply s) line ula tile out s t ≡ drawn_if (draw_reply line (length ula) (length tile) (length out) s) (drawn_line s ula tile line) out)

-- a trace cut after its last entry at or before a line, or later, draws that line the same
unfoldable pub CutTrace : Type 0
CutTrace =
    (own : Reply) (line : LineNumber) (ula tile out : List ℕ) (s : State) (t : List ℕ) (n : ℕ) → Bytes t → trace_reply t ≡ Done → n ≤ entry_count t
    → ((i : ℕ) → n ≤ i → i < entry_count t → line.0 < line_at t i)
    → (traced_answer own line ula tile out s (cut t n) ≡ traced_answer own line ula tile out s t)
    × (traced_dots own line ula tile out s (cut t n) ≡ traced_dots own line ula tile out s t)

-- a lawful and typed state is so after the entries of every line, and so is the next frame of what they make of it
unfoldable pub LawfulAlong : Type 0
LawfulAlong =
    (s : State) (t : List ℕ) (L : ℕ) → Bytes t → Typed s → lawful_state s ≡ true
    → let r = (after s t L).state in ((lawful_state r ≡ true) × Typed r) × ((lawful_state (next_frame r).state ≡ true) × Typed (next_frame r).state)

-- 4 refuses at the start alone: a line or a whole call that is answered 4 was asked of a state whose own reply it is, none of 256 replies is 4, and no
-- drawing of a record is answered 4
pub record FourAtStart : Type 0 where
  pub alone : (own : Reply) (line : LineNumber) (ula tile out : List ℕ) (s : State) (t : List ℕ) → (traced_answer own line ula tile out s t).reply ≡ NotLawful → own ≡ NotLawful
  pub whole : (own : Reply) (ula tile dots replies places : ℕ) (t : List ℕ) → whole_reply ula tile dots replies places own t ≡ NotLawful → own ≡ NotLawful
  pub carried : (s : State) (t : List ℕ) (L : ℕ) → L < 256 → get_or (carried_replies s t) L 0 ≡ 4 → ⊥
  pub record-alone : (b : List ℕ) (line : LineNumber) (ula tile out t : List ℕ) → (lent_traced line ula tile out b t).reply ≡ NotLawful → ⊥
  pub record-whole : (b : List ℕ) (ula tile dots replies places : ℕ) (t : List ℕ) → lent_whole ula tile dots replies places b t ≡ NotLawful → ⊥
