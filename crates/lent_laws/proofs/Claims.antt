-- The claims on lent records. A record that is read holds a lawful and typed state; every change keeps it so, and the record of such a
-- state reads back. A call on it is refused by 4 nowhere. An old record is refused by a change for its version.
use Prim.Native.Nat.{ℕ}
use mathlib.Core.Path.{◌≡◌, refl, sym, ap, ◌∙◌}
use mathlib.Core.List.{List}
use mathlib.Core.Bool.{Bool, true, false, cond}
use lib.ListN.{length}
use Rattle.std.specs.Prelude.{Ok, Err}
use Rattle.lists.proofs.Cond.{if-true, either}
use Rattle.reply.specs.declared.Reply.{Reply}
use Rattle.reply.specs.declared.Reply.TheVariants.{Done, NotLawful, WrongVersion}
use Rattle.reply.specs.Reply.{is_done}
use Rattle.reply.proofs.Done.{is-done}
use Rattle.reply.proofs.NotFour.{NotFour, done-not-four}
use Rattle.reply.proofs.Order.{hit-each}
use Rattle.state.specs.declared.State.{State}
use Rattle.state.specs.declared.Answer.{Answer}
use Rattle.state.specs.Answer.{refused}
use Rattle.state.specs.Reset.{reset_state}
use Rattle.state.specs.Lawful.{lawful_state}
use Rattle.state.specs.Typed.{Typed}
use Rattle.frame.proofs.Claims.{frame_lawful, frame-done}
use Rattle.register_answers.specs.Answers.{Reading}
use Rattle.reply.specs.Answered.{reply_of}
use Rattle.register_laws.specs.Claims.{LawfulStays}
use Rattle.register_laws.proofs.Claims.{lawful_stays, never_four}
use Rattle.record_layout.specs.declared.RecordRead.{RecordRead}
use Rattle.record_layout.specs.declared.Version.{Version}
use Rattle.record_layout.specs.declared.Version.TheVariants.{Version1}
use Rattle.record_layout.specs.Version.{current, kept_in}
use Rattle.record_layout.specs.Record.{record_length, version_of, told, passed, read_with, read_as, read_record, read_current}
use Rattle.record_layout.specs.Claims.{IsRecord}
use Rattle.record_layout.proofs.Stages.{accepts, done-accepted}
use Rattle.record_layout.proofs.RoundTrip.{long, state-lawful}
use Rattle.record_layout.proofs.Claims.{reads_kept, read_told, current-read, read_lawful, record-taken, refuses_other}
use Rattle.line_replies.proofs.NotFour.{line-not-four, lengths-not-four, state-not-four}
use Rattle.lent.specs.declared.changes.Change.{Change}
use Rattle.lent.specs.declared.changes.Change.TheVariants.{NextFrame, Register, Port}
use Rattle.lent.specs.declared.queries.Query.{Query}
use Rattle.lent.specs.declared.queries.Query.TheVariants as query
use Rattle.lent.specs.Calls.{changed, asked, ByteWritten}
use Rattle.lent.specs.Lent.{lent_answer, lent_after, lent_reading}
use Rattle.lent_drawing.specs.Drawn.{lent_draw_reply}
use Rattle.lent_laws.specs.Claims.{ChangeReadsBack, NeverNotLawful, OldLeft}
use Rattle.lent_laws.proofs.NotFour.{read-not-four, record-not-four}

-- every change keeps a lawful and typed state so
pub change-keeps : (c : Change) (s : State) → ByteWritten c → Typed s → lawful_state s ≡ true
    → (lawful_state (changed c s).state ≡ true) × Typed (changed c s).state
unfolding LawfulStays
change-keeps NextFrame s b t h = frame_lawful s h t
change-keeps (Register n v) s b t h = lawful_stays.0 s n v b t h
change-keeps (Port n v) s b t h = lawful_stays.1 s n v b t h

-- an answer that is done reads back, where its state is lawful and typed
back : (b : List ℕ) (a : Answer) → lawful_state a.state ≡ true → Typed a.state → a.reply ≡ Done → read_record (lent_after b a) ≡ read_with passed a.state
unfolding lent_after
back b a h t d = ap read_record (if-true _ _ _ (ap is_done d)) ∙ current-read a.state t h

-- what a change answers on bytes that are no record
abbrev unchanged : List ℕ → Answer
unchanged b = refused (read_current b).reply (read_current b).state

pub change_reads_back : ChangeReadsBack
unfolding lent_answer
change_reads_back b c y w d =
    let r = read_lawful current b y in
    let k = change-keeps c (read_current b).state w r.1 r.0 in
    back b (lent_answer (changed c) b)
    (either (λ a. lawful_state a.state ≡ true) (is_done (read_current b).reply) (changed c (read_current b).state) (unchanged b) k.0 r.0)
    (either (λ a. Typed a.state) (is_done (read_current b).reply) (changed c (read_current b).state) (unchanged b) k.1 r.1) d

-- ---- never 4

-- a call on the state of a record that is read, or the record's own reply
asking : {A : Type 0} (reply : A → Reply) (v : Version) (b : List ℕ) (x y : A) → (lawful_state (read_as v b).state ≡ true → NotFour (reply x))
    → reply y ≡ (read_as v b).reply → NotFour (reply (cond (is_done (read_as v b).reply) x y))
asking reply v b x y h e = go (is_done (read_as v b).reply) refl
  where
    go : (t : Bool) → is_done (read_as v b).reply ≡ t → NotFour (reply (cond t x y))
    go true d =
        let r = done-accepted v b (is-done (read_as v b).reply d) in
        h (ap (λ (a : RecordRead). lawful_state a.state) (accepts v b r) ∙ state-lawful v b r)
    go false d = rw e (read-not-four v b)

change-not-four : (c : Change) (s : State) → lawful_state s ≡ true → NotFour (changed c s).reply
change-not-four NextFrame s h = rw (frame-done s h) done-not-four
change-not-four (Register n v) s h = never_four.registers s n v h
change-not-four (Port n v) s h = never_four.ports s n v h

reading-not-four : (a : Reading) → (a ≡ Err NotLawful → ⊥) → NotFour (reply_of a)
reading-not-four (Ok v) h = done-not-four
reading-not-four (Err r) h = λ e. h (ap Err e)

query-not-four : (q : Query) (s : State) → lawful_state s ≡ true → NotFour (reply_of (asked q s))
query-not-four (query.Register n) s h = reading-not-four (asked (query.Register n) s) (never_four.register-reads s n h)
query-not-four (query.Port n) s h = reading-not-four (asked (query.Port n) s) (never_four.port-reads s n h)

pub never_not_lawful : NeverNotLawful
unfolding lent_answer lent_reading lent_draw_reply read_record
never_not_lawful = record {
  changes = λ b c. asking (λ (a : Answer). a.reply) current b (changed c (read_current b).state) (unchanged b) (change-not-four c (read_current b).state) refl;
  queries = λ b q e. asking reply_of (version_of (length b)) b (asked q (read_record b).state) (Err (read_record b).reply) (query-not-four q (read_record b).state) refl (ap reply_of e);
  drawings =
      λ b line ula tile dots.
      let s = (read_record b).state in
      hit-each NotFour _ done-not-four
      (line-not-four line, (lengths-not-four ula tile dots, (record-not-four b, (state-not-four s.ula s.tiles s.palette s.ports, tt))));
}

-- ---- old records

module _ (b : List ℕ) (r : IsRecord Version1 b) where
  pub old-long : length b ≡ record_length Version1
  old-long = long Version1 b (record-taken Version1 b r)

  pub old-refused : read_current b ≡ read_with (told WrongVersion 2) reset_state
  old-refused = refuses_other current b r

  old-unanswered : (call : State → Answer) → lent_answer call b ≡ refused WrongVersion reset_state
  unfolding lent_answer
  old-unanswered call = ap (λ (a : RecordRead). cond (is_done a.reply) (call a.state) (refused a.reply a.state)) old-refused

  pub old-read : read_record b ≡ read_with passed (kept_in Version1 r.0)
  old-read = read_told Version1 b old-long ∙ ap (read_as Version1) (sym r.3) ∙ reads_kept Version1 r.0 r.1 r.2

  old-told : (call : State → Reading) → lent_reading call b ≡ call (kept_in Version1 r.0)
  unfolding lent_reading
  old-told call = rw old-read

pub old_left : OldLeft
unfolding lent_after
old_left = record {
  changes =
      λ b c r. (ap (λ (a : Answer). a.reply) (old-unanswered b r (changed c)), ap (lent_after b) (old-unanswered b r (changed c)));
  queries = λ b q r. old-told b r (asked q);
}
