-- The proofs of the statements in specs/Claims.antt, each under its statement's name: laws over the state read, the bank filled and the file
-- written, carried to the calls' answers along what a done reply says.
use Prim.Native.Nat.{ℕ, ◌+◌, ◌-◌, ◌≤◌}
use mathlib.Core.Path.{◌≡◌, refl, sym, ap, ◌∙◌, subst}
use mathlib.Core.List.{List, [], ◌∷◌, ◌++◌}
use mathlib.Core.Bool.{Bool, true, false, cond}
use native.Mathlib.Omega.{arith}
use lib.ListN.{length, drop, get_or}
use lib.Dec.{eqb}
use Rattle.lists.specs.Placed.{placed}
use Rattle.lists.proofs.Cond.{if-true, if-false}
use Rattle.reply.specs.declared.Reply.{Reply}
use Rattle.reply.specs.declared.Reply.TheVariants.{Done, BankLength, BufferLength, NotLawful, NoForm, WrongVersion}
use Rattle.reply.specs.Reply.{is_done}
use Rattle.reply.specs.First.{first_of, first_hit}
use Rattle.reply.proofs.NotFour.{NotFour, other, done-not-four, piece-not-four}
use Rattle.reply.proofs.Done.{is-done, test-met}
use Rattle.reply.proofs.Order.{hit-each}
use Rattle.state.specs.declared.State.{State}
use Rattle.state.specs.declared.Answer.{Answer}
use Rattle.state.specs.Answer.{done, refused}
use Rattle.state.specs.Lawful.{lawful_state, lawful_reply}
use Rattle.state.specs.Typed.{Typed}
use Rattle.record_layout.specs.declared.Version.TheVariants.{Version1}
use Rattle.record_layout.specs.Version.{current, kept_in}
use Rattle.record_layout.specs.declared.RecordRead.{RecordRead}
use Rattle.record_layout.specs.Record.{passed, read_with, read_record, read_current}
use Rattle.record_layout.specs.Claims.{IsRecord}
use Rattle.record_layout.proofs.Stages.{accepts, done-accepted}
use Rattle.record_layout.proofs.RoundTrip.{long, state-lawful}
use Rattle.record_layout.proofs.Claims.{read_told, current-read, read_lawful, record-taken}
use Rattle.line_replies.specs.Replies.{is_bank}
use Rattle.ula_mode.specs.declared.modes.Mode.{Mode}
use Rattle.scr_forms.specs.declared.files.Shape.{Shape}
use Rattle.scr_forms.specs.Forms.{form_of, has_form, form_reply, sizes, bytes_in, filled, in_parts}
use Rattle.scr_forms.specs.Files.{shape, length_of, shape_of, port_in, colours_in}
use Rattle.scr_forms.proofs.Parts.{ascending, arrives, filled-length, taken_out}
use Rattle.scr_forms.proofs.Shapes.{known, colours-there}
use Rattle.scr_state.specs.Screen.{with_screen}
use Rattle.scr_replies.specs.Judged.{bank_reply, file_reply, file_length, read_judged, write_judged}
use Rattle.scr.specs.Reads.{read_reply, state_read, bank_filled, read_answer}
use Rattle.scr.specs.Writes.{mode_in, write_reply, file_of, written_answer, file_after}
use Rattle.scr_replies.proofs.Judged.{Readable, readable, reads, writable, writes}
use Rattle.lent.specs.Lent.{lent_after}
use Rattle.lent_scr.specs.Screens.{lent_read_reply, record_after}
use Rattle.lent_laws.proofs.Claims.{old-long, old-refused, old-read}
use Rattle.lent_laws.proofs.NotFour.{read-not-four, record-not-four}
use Rattle.scr_laws.specs.Claims.{Received, ScreenReadsBack, ScreenWritesBack, ScreenLawful, ScreenAskedAgain, ScreenStored, ScreenNeverNotLawful, ScreenOld}
use Rattle.scr_laws.proofs.Shown.{read-lawful, read-typed, read-mode}
use Rattle.scr_laws.proofs.Written.{file-shape, file-port, file-colours, file-taken, apart, front-placed}

-- ---- lawful

pub screen_lawful : ScreenLawful
unfolding ScreenLawful
screen_lawful s bank file t y h = go (is_done (read_reply s bank file))
  where
    go : (b : Bool) → let a = cond b (done (state_read s file)) (refused (read_reply s bank file) s) in (lawful_state a.state ≡ true) × Typed a.state
    go true = (read-lawful s file ∙ h, read-typed s file t y)
    go false = (h, t)

-- a state is lawful where its reply is done
lawful-done : (s : State) → lawful_reply s ≡ Done → lawful_state s ≡ true
lawful-done s e = (test-met (lawful_state s) Done NotLawful refl e).0

done-lawful : (s : State) → lawful_state s ≡ true → lawful_reply s ≡ Done
done-lawful s h = if-true _ _ _ h

-- ---- a file that is read

module _ (s : State) (bank file : List ℕ) (e : read_reply s bank file ≡ Done) where
  known_read : Readable (lawful_reply s) (length bank) (shape_of file).mode
  known_read = readable (lawful_reply s) (length bank) (shape_of file).mode e

  state-done : (read_answer s bank file).state ≡ state_read s file
  state-done = ap (λ (a : Answer). a.state) (if-true _ _ _ (ap is_done e))

  enough : sizes (form_of (shape_of file).mode).parts ≤ length file
  enough = omega (arith, (known file known_read.formed).size)

  mode-read : mode_in (state_read s file) ≡ (shape_of file).mode
  mode-read = read-mode s file known_read.formed (known file known_read.formed).port

  bank-length : length (bank_filled bank file) ≡ 16384
  bank-length = filled-length (form_of (shape_of file).mode).parts (ascending (shape_of file).mode) bank file known_read.sized enough

  -- and written again
  pieces-back : bytes_in (form_of (shape_of file).mode).parts (bank_filled bank file)
      ++ (cond (form_of (shape_of file).mode).port ((state_read s file).ports.timex ∷ []) [] ++ cond (state_read s file).ports.plus (state_read s file).plus []) ≡ file
  unfolding state_read colours_in
  pieces-back =
      apart (shape_of file).mode (shape_of file).colours file s.plus _ (known file known_read.formed).size
      (taken_out (form_of (shape_of file).mode).parts (ascending (shape_of file).mode) bank file known_read.sized enough)

  file-back : file_of (state_read s file) (bank_filled bank file) ≡ file
  unfolding file_of
  file-back = rw mode-read pieces-back

  length_back : length_of (mode_in (state_read s file)) (state_read s file).ports.plus ≡ length file
  unfolding state_read
  length_back = ap (λ (m : Mode). length_of m (shape_of file).colours) mode-read ∙ sym (known file known_read.formed).size

  writes-back : (buffer : List ℕ) → length buffer ≡ file_length → write_reply (state_read s file) (bank_filled bank file) buffer ≡ Done
  writes-back buffer l =
      writes (lawful_reply (state_read s file)) (length (bank_filled bank file)) (length buffer) (mode_in (state_read s file)) (record {
        sized = bank-length;
        long = l;
        sound = done-lawful (state_read s file) (read-lawful s file ∙ lawful-done s known_read.sound);
        formed = ap has_form mode-read ∙ known_read.formed;
      })

pub screen_writes_back : ScreenWritesBack
unfolding ScreenWritesBack
screen_writes_back s bank file buffer e l =
    subst
    (λ (t : State). (write_reply t (bank_filled bank file) buffer ≡ Done) × ((written_answer Done t).length ≡ length file)
    × (file_after Done t (bank_filled bank file) buffer ≡ file ++ drop (length file) buffer))
    (sym (state-done s bank file e))
    (writes-back s bank file e buffer l, length_back s bank file e, ap (placed buffer 0) (file-back s bank file e) ∙ front-placed buffer file)

pub screen_asked_again : ScreenAskedAgain
unfolding ScreenAskedAgain
screen_asked_again s bank file = go (is_done (read_reply s bank file)) refl
  where
    go : (b : Bool) → is_done (read_reply s bank file) ≡ b
        → read_reply (cond b (done (state_read s file)) (refused (read_reply s bank file) s)).state (cond b (bank_filled bank file) bank) file ≡ read_reply s bank file
    go true d =
        let e = is-done (read_reply s bank file) d in
        let k = known_read s bank file e in
        reads (lawful_reply (state_read s file)) (length (bank_filled bank file)) (shape_of file).mode (record {
          sized = bank-length s bank file e;
          sound = done-lawful (state_read s file) (read-lawful s file ∙ lawful-done s k.sound);
          formed = k.formed;
        })
        ∙ sym e
    go false d = refl

-- ---- a file that is written

module _ (s r : State) (bank own : List ℕ) (hb : length bank ≡ 16384) (hp : length s.plus ≡ 64) (h : has_form (mode_in s) ≡ true) (hr : lawful_state r ≡ true)
    (ho : length own ≡ 16384) where
  sent : shape_of (file_of s bank) ≡ shape (mode_in s) s.ports.plus
  sent = file-shape s bank hb hp h

  reads-sent : read_reply r own (file_of s bank) ≡ Done
  reads-sent =
      reads (lawful_reply r) (length own) (shape_of (file_of s bank)).mode
      (record { sized = ho; sound = done-lawful r hr; formed = ap (λ (f : Shape). has_form f.mode) sent ∙ h })

  bytes-sent : (i : ℕ) → get_or (filled (form_of (mode_in s)).parts own (file_of s bank)) i 0 ≡ cond (in_parts (form_of (mode_in s)).parts i) (get_or bank i 0) (get_or own i 0)
  unfolding file_of
  bytes-sent i = arrives (form_of (mode_in s)).parts (ascending (mode_in s)) own bank _ ho hb i

  port-sent : (state_read r (file_of s bank)).ports.timex ≡ cond (form_of (mode_in s)).port s.ports.timex (form_of (mode_in s)).value
  unfolding state_read
  port-sent = ap (λ (f : Shape). port_in f.mode (file_of s bank)) sent ∙ file-port s bank hb hp h

  switch-sent : (state_read r (file_of s bank)).ports.plus ≡ s.ports.plus
  unfolding state_read
  switch-sent = ap (λ (f : Shape). f.colours) sent

  on-sent : s.ports.plus ≡ true → (state_read r (file_of s bank)).plus ≡ s.plus
  unfolding state_read colours_in
  on-sent e =
      let k : (shape_of (file_of s bank)).colours ≡ true = ap (λ (f : Shape). f.colours) sent ∙ e in
      if-true _ _ _ k ∙ ap (λ (n : ℕ). drop n (file_of s bank)) (colours-there (file_of s bank) k) ∙ file-colours s bank hb hp h e

  off-sent : s.ports.plus ≡ false → (state_read r (file_of s bank)).plus ≡ r.plus
  unfolding state_read
  off-sent e = if-false _ _ _ (ap (λ (f : Shape). f.colours) sent ∙ e)

  rest-sent : let t = state_read r (file_of s bank) in t ≡ with_screen r t.ports.timex t.ports.plus t.plus
  unfolding state_read
  rest-sent = refl

  received : Received s bank r own (state_read r (file_of s bank)) (bank_filled own (file_of s bank))
  received = record {
    long = bank-length r own (file_of s bank) reads-sent ∙ sym ho;
    bytes = λ i. ap (λ (f : Shape). get_or (filled (form_of f.mode).parts own (file_of s bank)) i 0) sent ∙ bytes-sent i;
    mode = mode-read r own (file_of s bank) reads-sent ∙ ap (λ (f : Shape). f.mode) sent;
    port = port-sent;
    switch = switch-sent;
    on = on-sent;
    off = off-sent;
    rest = rest-sent;
  }

pub screen_reads_back : ScreenReadsBack
unfolding ScreenReadsBack
screen_reads_back s r bank own buffer t e hr ho =
    let w = writable (lawful_reply s) (length bank) (length buffer) (mode_in s) e in
    let hp = t.plus.long in
    let k = reads-sent s r bank own w.sized hp w.formed hr ho in
    subst (λ (file : List ℕ). (read_reply r own file ≡ Done) × Received s bank r own (read_answer r own file).state (bank_filled own file))
    (sym (file-taken s bank w.sized hp w.formed buffer))
    (k, subst (λ (u : State). Received s bank r own u (bank_filled own (file_of s bank))) (sym (state-done r own (file_of s bank) k)) (received s r bank own w.sized hp w.formed hr ho))

-- ---- by a lent record

pub screen_stored : ScreenStored
unfolding ScreenStored lent_after
screen_stored b bank file y z e =
    let r = read_lawful current b y in
    let k = readable (read_current b).reply (length bank) (shape_of file).mode e in
    let own = read_told current b (long current b (done-accepted current b k.sound)) in
    current-read (state_read (read_current b).state file) (read-typed (read_current b).state file r.1 z) (read-lawful (read_current b).state file ∙ r.0)
    ∙ ap (λ (a : RecordRead). read_with passed (state_read a.state file)) (sym own)

bank-not-four : (n : ℕ) → NotFour (bank_reply n)
bank-not-four n = piece-not-four (is_bank n) BankLength (other BankLength refl)

form-not-four : (m : Mode) → NotFour (form_reply m)
form-not-four m = piece-not-four (has_form m) NoForm (other NoForm refl)

file-not-four : (n : ℕ) → NotFour (file_reply n)
file-not-four n = piece-not-four (eqb n file_length) BufferLength (other BufferLength refl)

pub screen_never_not_lawful : ScreenNeverNotLawful
unfolding read_judged write_judged
screen_never_not_lawful = record {
  reading =
      λ b bank file. hit-each NotFour _ done-not-four
      (bank-not-four (length bank), (read-not-four current b, (form-not-four (shape_of file).mode, tt)));
  writing =
      λ b bank file. hit-each NotFour _ done-not-four
      (bank-not-four (length bank), (file-not-four (length file), (record-not-four b, (form-not-four (mode_in (read_record b).state), tt))));
}

-- ---- old records

-- the state in an old record is lawful, as its version keeps it
old-lawful : (b : List ℕ) (r : IsRecord Version1 b) → lawful_reply (kept_in Version1 r.0) ≡ Done
old-lawful b r =
    let a = record-taken Version1 b r in
    let e = sym (old-read b r) ∙ read_told Version1 b (old-long b r) ∙ accepts Version1 b a in
    ap (λ (x : RecordRead). lawful_reply x.state) e ∙ if-true _ _ _ (state-lawful Version1 b a)

old-unread : (b bank file : List ℕ) → IsRecord Version1 b → length bank ≡ 16384 → lent_read_reply b bank file ≡ WrongVersion
unfolding read_judged first_hit first_of
old-unread b bank file r l = ap (λ (x : RecordRead). read_judged x.reply (length bank) (shape_of file).mode) (old-refused b r) ∙ rw l

pub screen_old : ScreenOld
unfolding lent_after
screen_old = record {
  reading = λ b bank file r l. let e = old-unread b bank file r l in (e, ap (λ (x : Reply). record_after x b file) e);
  writing = λ b bank file r. rw (old-read b r, old-lawful b r);
}
