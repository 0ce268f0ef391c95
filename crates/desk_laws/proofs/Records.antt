-- The record in a seat is that of a lawful and typed state; the call on it is the call on that state, and leaves such a record again.
use Prim.Native.Nat.{ℕ}
use mathlib.Core.Path.{◌≡◌, refl, sym, ap, ◌∙◌, subst}
use mathlib.Core.Bool.{Bool, true, false, cond}
use mathlib.Core.List.{List, [], ◌∷◌}
use lib.ListN.{length}
use Rattle.lists.specs.Bytes.{Bytes}
use Rattle.lists.proofs.Cond.{either}
use Rattle.reply.specs.declared.Reply.{Reply}
use Rattle.reply.specs.declared.Reply.TheVariants.{Done, DeskFull}
use Rattle.reply.specs.Reply.{is_done}
use Rattle.reply.specs.First.{first_hit}
use Rattle.reply.proofs.Done.{is-done, refused}
use Rattle.state.specs.declared.State.{State}
use Rattle.state.specs.declared.Answer.{Answer}
use Rattle.state.specs.Answer as answer
use Rattle.state.specs.Lawful.{lawful_state, lawful_reply}
use Rattle.state.specs.Reset.{reset_state}
use Rattle.state.specs.Typed.{Typed}
use Rattle.state.proofs.Claims.{reset_lawful}
use Rattle.frame.proofs.Claims.{frame-done}
use Rattle.surface.specs.declared.lines.LineNumber.{LineNumber}
use Rattle.register_answers.specs.Answers.{Reading}
use Rattle.register_laws.specs.Claims.{RefusedSame}
use Rattle.register_laws.proofs.Claims.{refused_same}
use Rattle.record_layout.specs.declared.RecordRead.{RecordRead}
use Rattle.record_layout.specs.Version.{current}
use Rattle.record_layout.specs.Record.{record_length, record_of, passed, read_with, read_record, read_current}
use Rattle.record_layout.specs.Claims.{IsRecord}
use Rattle.record_layout.proofs.Stages.{judged-done, done-accepted}
use Rattle.record_layout.proofs.RoundTrip.{long, record-read}
use Rattle.record_layout.proofs.Claims.{record-taken, taken-record, current-read}
use Rattle.line_replies.specs.Replies.{line_reply, lengths_reply, state_reply, draw_reply, drawn_if}
use Rattle.line.specs.Lines.{drawn_line}
use Rattle.lent_drawing.specs.Drawn.{lent_draw_reply, lent_drawn}
use Rattle.lent.specs.declared.changes.Change.{Change}
use Rattle.lent.specs.declared.changes.Change.TheVariants.{NextFrame, Register, Port}
use Rattle.lent.specs.Calls.{changed, ByteWritten}
use Rattle.lent.specs.Lent.{lent_answer, lent_after, lent_reading}
use Rattle.lent.proofs.Exits.{stored, left}
use Rattle.lent_laws.proofs.Claims.{change-keeps}
use Rattle.desk_seats.specs.Seats.{is_record}
use Rattle.desk.specs.Own.{Call, opening, closing, changing, asking, drawing, Own, away, here, OwnResult, replied, is_opening, opened, not_open, seated_call, own_call}
use Rattle.desk_laws.specs.Runs.{ByteCall}
use Rattle.desk_laws.proofs.Bytes.{bytes-record}

-- ---- bytes that are a record

module _ (b : List ℕ) where
  -- the reader accepts them
  pub record-accepted : IsRecord current b → is_record b ≡ true
  unfolding is_record
  record-accepted r = judged-done current b ∙ record-taken current b r

  pub accepted-record : Bytes b → is_record b ≡ true → IsRecord current b
  unfolding is_record
  accepted-record y e = taken-record current b y (done-accepted current b (is-done (read_current b).reply e))

  pub record-length : IsRecord current b → length b ≡ record_length current
  record-length r = long current b (record-taken current b r)

  pub record-bytes : IsRecord current b → Bytes b
  unfolding record_of
  record-bytes r = subst Bytes r.3 (bytes-record r.0 r.1)

-- ---- the record of a lawful and typed state

module _ (s : State) (t : Typed s) (h : lawful_state s ≡ true) where
  pub of-state : IsRecord current (record_of s)
  unfolding record_of
  of-state = (s, t, h, refl)

  read_back : read_current (record_of s) ≡ read_with passed s
  unfolding record_of
  read_back = record-read s t current h

  pub answer-is : (call : State → Answer) → lent_answer call (record_of s) ≡ call s
  unfolding lent_answer
  answer-is call = ap (λ (r : RecordRead). cond (is_done r.reply) (call r.state) (answer.refused r.reply r.state)) read_back

  pub reading-is : (call : State → Reading) → lent_reading call (record_of s) ≡ call s
  unfolding lent_reading
  reading-is call = rw (current-read s t h)

  pub reply-is : (line : LineNumber) (ula tile dots : ℕ) → lent_draw_reply line ula tile dots (record_of s) ≡ draw_reply line ula tile dots s
  unfolding lent_draw_reply draw_reply
  reply-is line ula tile dots =
      ap (λ (r : RecordRead). first_hit (line_reply line ∷ lengths_reply ula tile dots ∷ r.reply ∷ state_reply r.state.ula r.state.tiles r.state.palette r.state.ports ∷ []))
      (current-read s t h)
      ∙ ap (λ (r : Reply). first_hit (line_reply line ∷ lengths_reply ula tile dots ∷ r ∷ state_reply s.ula s.tiles s.palette s.ports ∷ [])) (sym lawful-done)
    where
      lawful-done : lawful_reply s ≡ Done
      lawful-done = rw h

  pub dots-are : (line : LineNumber) (ula tile dots : List ℕ)
      → lent_drawn line ula tile dots (record_of s) ≡ drawn_if (draw_reply line (length ula) (length tile) (length dots) s) (drawn_line s ula tile line) dots
  unfolding lent_drawn
  dots-are line ula tile dots =
      ap (λ (r : Reply). drawn_if r (drawn_line (read_record (record_of s)).state ula tile line) dots) (reply-is line (length ula) (length tile) (length dots))
      ∙ ap (λ (r : RecordRead). drawn_if (draw_reply line (length ula) (length tile) (length dots) s) (drawn_line r.state ula tile line) dots) (current-read s t h)

  -- a refused change leaves the state
  refused-state : (c : Change) → ((changed c s).reply ≡ Done → ⊥) → (changed c s).state ≡ s
  unfolding RefusedSame
  refused-state NextFrame n = absurd (n (ap (λ (a : Answer). a.reply) (frame-done s h)))
  refused-state (Register k v) n = refused_same.0 s k v n
  refused-state (Port k v) n = refused_same.1 s k v n

  -- so the record afterwards is that of the answer's state, done or refused
  pub after_is : (c : Change) → lent_after (record_of s) (lent_answer (changed c) (record_of s)) ≡ record_of (changed c s).state
  after_is c = ap (lent_after (record_of s)) (answer-is (changed c)) ∙ go (is_done (changed c s).reply) refl
    where
      go : (b : Bool) → is_done (changed c s).reply ≡ b → lent_after (record_of s) (changed c s) ≡ record_of (changed c s).state
      go true e = sym (stored (record_of s) (changed c s) e)
      go false e = sym (left (record_of s) (changed c s) e) ∙ ap record_of (sym (refused-state c (refused (changed c s).reply e)))

-- ---- what a member has

-- is a record, where it has a seat
abbrev pub OwnRecord : Own → Type 0
OwnRecord away = Unit
OwnRecord (here b) = IsRecord current b

change-record : (b : List ℕ) → IsRecord current b → (c : Change) → ByteWritten c → IsRecord current (lent_after b (lent_answer (changed c) b))
unfolding record_of
change-record b r c w =
    let s = r.0 in
    let k = change-keeps c s w r.1 r.2 in
    let e : lent_after b (lent_answer (changed c) b) ≡ record_of (changed c s).state =
    ap (λ (x : List ℕ). lent_after x (lent_answer (changed c) x)) (sym r.3) ∙ after_is s r.1 r.2 c in
    subst (IsRecord current) (sym e) (of-state (changed c s).state k.1 k.0)

-- and stays one
seated-kept : (b : List ℕ) → IsRecord current b → (c : Call) → ByteCall c → OwnRecord (seated_call b c).own
seated-kept b r opening w = r
seated-kept b r closing w = tt
seated-kept b r (changing c) w = change-record b r c w
seated-kept b r (asking q) w = r
seated-kept b r (drawing line ula tile dots) w = r

pub own-kept : (room : Bool) (o : Own) → OwnRecord o → (c : Call) → ByteCall c → OwnRecord (own_call room o c).own
own-kept room (here b) r c w = seated-kept b r c w
own-kept room away r c w =
    either (λ (x : OwnResult). OwnRecord x.own) (is_opening c) (opened room) (not_open c)
    (either (λ (x : OwnResult). OwnRecord x.own) room (record { outcome = replied Done opening; own = here (record_of reset_state) })
    (record { outcome = replied DeskFull opening; own = away }) (of-state reset_state reset_lawful.1 reset_lawful.0) tt) tt
