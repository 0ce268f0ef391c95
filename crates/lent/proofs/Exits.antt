-- The exits of the calls on a lent record, each once over the call that it makes: `read` is what reading the record answered.
use Prim.Native.Nat.{ℕ}
use mathlib.Core.Path.{◌≡◌, sym, ap, ◌∙◌}
use mathlib.Core.List.{List}
use mathlib.Core.Bool.{true, false}
use lib.ListN.{length}
use Rattle.std.specs.Prelude.{Err}
use Rattle.lists.proofs.Cond.{if-true, if-false}
use Rattle.reply.specs.Reply.{is_done}
use Rattle.reply.proofs.Done.{is-done}
use Rattle.state.specs.declared.State.{State}
use Rattle.state.specs.declared.Answer.{Answer}
use Rattle.state.specs.Answer.{refused}
use Rattle.state.specs.Lawful.{lawful_state}
use Rattle.register_answers.specs.Answers.{Reading}
use Rattle.register_answers.proofs.Told.{Told, told-after}
use Rattle.register_laws.proofs.Claims.{register-told, port-told}
use Rattle.record_layout.specs.declared.RecordRead.{RecordRead}
use Rattle.record_layout.specs.Version.{current}
use Rattle.record_layout.specs.Record.{accepted, record_length, record_of, read_record, read_current}
use Rattle.record_layout.proofs.Stages.{accepts, done-accepted}
use Rattle.record_layout.proofs.RoundTrip.{long, state-lawful}
use Rattle.lent.specs.declared.queries.Query.{Query}
use Rattle.lent.specs.declared.queries.Query.TheVariants as query
use Rattle.lent.specs.Calls.{asked}
use Rattle.lent.specs.Lent.{lent_answer, lent_after, lent_reading}

-- the lent record after an answer that is done, and after a refusal
pub stored : (b : List ℕ) (a : Answer) → is_done a.reply ≡ true → record_of a.state ≡ lent_after b a
unfolding lent_after
stored b a d = sym (if-true _ _ _ d)

pub left : (b : List ℕ) (a : Answer) → is_done a.reply ≡ false → b ≡ lent_after b a
unfolding lent_after
left b a d = sym (if-false _ _ _ d)

-- a change
module _ (b : List ℕ) (read : RecordRead) (h : read ≡ read_current b) where
  reply-is : read.reply ≡ (read_current b).reply
  reply-is = ap (λ (a : RecordRead). a.reply) h

  taken : is_done read.reply ≡ true → accepted current b ≡ true
  taken d = done-accepted current b (is-done (read_current b).reply (ap is_done (sym reply-is) ∙ d))

  pub read-lawful : is_done read.reply ≡ true → lawful_state read.state ≡ true
  read-lawful d = ap (λ (a : RecordRead). lawful_state a.state) (h ∙ accepts current b (taken d)) ∙ state-lawful current b (taken d)

  pub read-long : is_done read.reply ≡ true → length b ≡ record_length current
  read-long d = long current b (taken d)

  -- a record that is read: the call's own answer
  pub answered : (call : State → Answer) (a : Answer) → is_done read.reply ≡ true → a ≡ call read.state → a ≡ lent_answer call b
  unfolding lent_answer
  answered call a d q = q ∙ ap (λ (x : RecordRead). call x.state) h ∙ sym (if-true _ _ _ (ap is_done (sym reply-is) ∙ d))

  -- a record that is refused: its refusal, and the bytes as they were
  pub unchanged : (call : State → Answer) → is_done read.reply ≡ false
      → (read.reply ≡ (lent_answer call b).reply) × (b ≡ lent_after b (lent_answer call b))
  unfolding lent_answer
  unchanged call d =
      let e : refused (read_current b).reply (read_current b).state ≡ lent_answer call b = sym (if-false _ _ _ (ap is_done (sym reply-is) ∙ d)) in
      let f : read.reply ≡ (lent_answer call b).reply = reply-is ∙ ap (λ (a : Answer). a.reply) e in
      (f, left b (lent_answer call b) (ap is_done (sym f) ∙ d))

-- a question
module _ (b : List ℕ) (read : RecordRead) (h : read ≡ read_record b) where
  same-done : is_done read.reply ≡ is_done (read_record b).reply
  same-done = ap (λ (a : RecordRead). is_done a.reply) h

  pub told : (call : State → Reading) (a : Reading) → is_done read.reply ≡ true → a ≡ call read.state → a ≡ lent_reading call b
  unfolding lent_reading
  told call a d q = q ∙ ap (λ (x : RecordRead). call x.state) h ∙ sym (if-true _ _ _ (sym same-done ∙ d))

  pub untold : (call : State → Reading) → is_done read.reply ≡ false → Err read.reply ≡ lent_reading call b
  unfolding lent_reading
  untold call d = ap (λ (x : RecordRead). Err x.reply) h ∙ sym (if-false _ _ _ (sym same-done ∙ d))

-- what a question answers is told by its reply and its value
asked-told : (q : Query) (s : State) → Told (asked q s)
asked-told (query.Register n) s = register-told s n
asked-told (query.Port n) s = port-told s n

pub lent-told : (q : Query) (b : List ℕ) → Told (lent_reading (asked q) b)
unfolding lent_reading
lent-told q b = let r = read_record b in told-after r.reply (asked q r.state) (asked-told q r.state)

-- the two results of a change whose answer is a
pub changed-by : (call : State → Answer) (b : List ℕ) (a : Answer) (after : List ℕ) → a ≡ lent_answer call b → after ≡ lent_after b a
    → (a.reply ≡ (lent_answer call b).reply) × (after ≡ lent_after b (lent_answer call b))
changed-by call b a after q p = (ap (λ (x : Answer). x.reply) q, p ∙ ap (lent_after b) q)
