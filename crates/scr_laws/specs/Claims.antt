-- Rules 7.10, 14.4 and 14.10 to 14.12: what holds of reading and writing together, once over the forms and the colours. `Typed` and `Bytes` are
-- what the types of a call's arguments give.
use Rattle.std.specs.Prelude.{ℕ, ◌≡◌, List, ◌++◌, true, false, cond, length, take, drop, get_or}
use Rattle.lists.specs.Bytes.{Bytes}
use Rattle.reply.specs.declared.Reply.TheVariants.{Done, NotLawful, WrongVersion}
use Rattle.state.specs.declared.State.{State}
use Rattle.state.specs.Lawful.{lawful_state}
use Rattle.state.specs.Typed.{Typed}
use Rattle.record_layout.specs.declared.Version.TheVariants.{Version1}
use Rattle.record_layout.specs.Version.{kept_in}
use Rattle.record_layout.specs.Record.{passed, read_with, read_record}
use Rattle.record_layout.specs.Claims.{IsRecord}
use Rattle.scr_forms.specs.Forms.{form_of, in_parts}
use Rattle.scr_state.specs.Screen.{with_screen}
use Rattle.scr_replies.specs.Judged.{file_length}
use Rattle.scr.specs.Reads.{read_reply, state_read, read_answer, bank_after}
use Rattle.scr.specs.Writes.{mode_in, write_reply, written_answer, file_after}
use Rattle.lent_scr.specs.Screens.{lent_read_reply, record_after, lent_write_reply}

-- what of a screen (s, bank) has come into a state, t, and a bank, filled, that were r and own before
pub record Received (s : State) (bank : List ℕ) (r : State) (own : List ℕ) (t : State) (filled : List ℕ) : Type 0 where
  -- the bytes of the form's parts; every other byte is the receiver's own
  pub long : length filled ≡ length own
  pub bytes : (i : ℕ) → get_or filled i 0 ≡ cond (in_parts (form_of (mode_in s)).parts i) (get_or bank i 0) (get_or own i 0)
  pub mode : mode_in t ≡ mode_in s
  -- in mode 6 the byte of port $FF, whole; else the form's own value
  pub port : t.ports.timex ≡ cond (form_of (mode_in s)).port s.ports.timex (form_of (mode_in s)).value
  -- the ULAplus switch and, where it is on, the colours
  pub switch : t.ports.plus ≡ s.ports.plus
  pub on : s.ports.plus ≡ true → t.plus ≡ s.plus
  pub off : s.ports.plus ≡ false → t.plus ≡ r.plus
  -- every other field is the receiver's own, but for what a screen sets
  pub rest : t ≡ with_screen r t.ports.timex t.ports.plus t.plus

-- what is written reads back, into any lawful state and any bank
unfoldable pub ScreenReadsBack : Type 0
ScreenReadsBack =
    (s r : State) (bank own buffer : List ℕ) → Typed s → write_reply s bank buffer ≡ Done → lawful_state r ≡ true → length own ≡ 16384
    → let file = take (written_answer Done s).length (file_after Done s bank buffer) in
    (read_reply r own file ≡ Done) × Received s bank r own (read_answer r own file).state (bank_after Done own file)

-- a file that is read writes back as the same bytes, and no others of the buffer change
unfoldable pub ScreenWritesBack : Type 0
ScreenWritesBack =
    (s : State) (bank file buffer : List ℕ) → read_reply s bank file ≡ Done → length buffer ≡ file_length
    → let t = (read_answer s bank file).state in
    let b = bank_after Done bank file in
    (write_reply t b buffer ≡ Done) × ((written_answer Done t).length ≡ length file) × (file_after Done t b buffer ≡ file ++ drop (length file) buffer)

-- reading keeps a lawful state lawful, and of its types, whatever the file
unfoldable pub ScreenLawful : Type 0
ScreenLawful =
    (s : State) (bank file : List ℕ) → Typed s → Bytes file → lawful_state s ≡ true
    → (lawful_state (read_answer s bank file).state ≡ true) × Typed (read_answer s bank file).state

-- the colours may be asked for before reading or after it: the judgement is the same
unfoldable pub ScreenAskedAgain : Type 0
ScreenAskedAgain =
    (s : State) (bank file : List ℕ)
    → read_reply (read_answer s bank file).state (bank_after (read_reply s bank file) bank file) file ≡ read_reply s bank file

-- a record that a file was read into is the record of the state that shows it
unfoldable pub ScreenStored : Type 0
ScreenStored =
    (b bank file : List ℕ) → Bytes b → Bytes file → lent_read_reply b bank file ≡ Done
    → read_record (record_after Done b file) ≡ read_with passed (state_read (read_record b).state file)

-- 4 never comes from a lent record
pub record ScreenNeverNotLawful : Type 0 where
  pub reading : (b bank file : List ℕ) → lent_read_reply b bank file ≡ NotLawful → ⊥
  pub writing : (b bank file : List ℕ) → lent_write_reply b bank file ≡ NotLawful → ⊥

-- an old record: no screen file is read into it, which is 17, and one is written from it as from the state in it moved up
pub record ScreenOld : Type 0 where
  pub reading : (b bank file : List ℕ) → IsRecord Version1 b → length bank ≡ 16384
      → (lent_read_reply b bank file ≡ WrongVersion) × (record_after (lent_read_reply b bank file) b file ≡ b)
  pub writing : (b bank file : List ℕ) (r : IsRecord Version1 b) → lent_write_reply b bank file ≡ write_reply (kept_in Version1 r.0) bank file
