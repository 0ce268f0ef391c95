-- The exits of the calls on a lent record: `read` is what reading the record answered, r the reply and n whether it is done.
use Prim.Native.Nat.{ℕ, ◌-◌, ◌≤◌}
use mathlib.Core.Path.{◌≡◌, refl, sym, ap, ◌∙◌}
use mathlib.Core.List.{List}
use mathlib.Core.Bool.{Bool, true, false, cond, ◌&&◌}
use native.Mathlib.Omega.{arith}
use lib.ListN.{length}
use Rattle.lists.proofs.Cond.{if-true, if-false}
use Rattle.reply.specs.declared.Reply.{Reply}
use Rattle.reply.specs.Reply.{is_done}
use Rattle.state.specs.declared.State.{State}
use Rattle.record_layout.specs.declared.RecordRead.{RecordRead}
use Rattle.record_layout.specs.Version.{current}
use Rattle.record_layout.specs.Record.{record_length, record_of, read_record, read_current}
use Rattle.record_layout.proofs.Stages.{done-accepted}
use Rattle.record_layout.proofs.RoundTrip.{long}
use Rattle.ula_mode.specs.declared.modes.Mode.{Mode}
use Rattle.scr_forms.specs.declared.files.Shape.{Shape}
use Rattle.scr_forms.specs.Forms.{form_of, filled}
use Rattle.scr_forms.specs.Files.{colours_size, length_of, shape_of, colours_at}
use Rattle.scr_forms.proofs.Shapes.{short, length_most}
use Rattle.lent.specs.Lent.{lent_after}
use Rattle.scr_replies.specs.Judged.{read_judged, write_judged}
use Rattle.scr.specs.Reads.{state_read, bank_after}
use Rattle.scr.specs.Writes.{mode_in, written_answer}
use Rattle.scr_replies.proofs.Judged.{Readable}
use Rattle.scr.proofs.Read as read-laws
use Rattle.lent_scr.specs.declared.reading.ScreenRead.{ScreenRead}
use Rattle.lent_scr.specs.Screens.{lent_read_reply, screen_read, record_after, lent_write_reply}

module _ (b bank file : List ℕ) (read : RecordRead) (found : Shape) (r : Reply) (n : Bool) (eb : read ≡ read_current b) (ef : found ≡ shape_of file)
    (er : r ≡ read_judged read.reply (length bank) found.mode) (en : n ≡ is_done r) where
  judged : r ≡ read_judged (read_current b).reply (length bank) found.mode
  judged = er ∙ ap (λ (a : RecordRead). read_judged a.reply (length bank) found.mode) eb

  told : r ≡ lent_read_reply b bank file
  told = read-laws.told (read_current b).reply bank file found r n ef judged en

  pub accepted : n ≡ true → Readable (read_current b).reply (length bank) found.mode
  accepted z = read-laws.accepted (read_current b).reply bank file found r n ef judged en z

  pub record-long : n ≡ true → length b ≡ record_length current
  record-long z = long current b (done-accepted current b (accepted z).sound)

  answered : (k : ℕ) → k ≡ (screen_read (lent_read_reply b bank file) file).colours
      → ◌≡◌ {A = ScreenRead} (record { reply = r; colours = k }) (screen_read (lent_read_reply b bank file) file)
  answered k e = rw (told, e)

  place-told : n ≡ true → (k : ℕ) → k ≡ cond found.colours (length file - colours_size found.colours) 0 → k ≡ (screen_read (lent_read_reply b bank file) file).colours
  place-told z k e =
      e ∙ ap (λ (x : Shape). cond x.colours (length file - colours_size x.colours) 0) ef
      ∙ ap (λ (d : Bool). cond (d && (shape_of file).colours) (colours_at file) 0) (sym (read-laws.told-done (read_current b).reply bank file found r n ef judged en z))

  pub screen-stored : n ≡ true → (k : ℕ) (x y : List ℕ) → k ≡ cond found.colours (length file - colours_size found.colours) 0 → x ≡ record_of (state_read read.state file)
      → y ≡ filled (form_of found.mode).parts bank file
      → (◌≡◌ {A = ScreenRead} (record { reply = r; colours = k }) (screen_read (lent_read_reply b bank file) file))
      × (x ≡ record_after (lent_read_reply b bank file) b file) × (y ≡ bank_after (lent_read_reply b bank file) bank file)
  unfolding lent_after
  screen-stored z k x y e f g = (
    answered k (place-told z k e),
    f ∙ ap (λ (a : RecordRead). record_of (state_read a.state file)) eb
        ∙ sym (if-true _ _ _ (read-laws.told-done (read_current b).reply bank file found r n ef judged en z)),
    read-laws.bank-read (read_current b).reply bank file found r n ef judged en z y g,
  )

  pub unread : n ≡ false → (◌≡◌ {A = ScreenRead} (record { reply = r; colours = 0 }) (screen_read (lent_read_reply b bank file) file))
      × (b ≡ record_after (lent_read_reply b bank file) b file) × (bank ≡ bank_after (lent_read_reply b bank file) bank file)
  unfolding lent_after
  unread z =
      let d = read-laws.told-not (read_current b).reply bank file found r n ef judged en z in (
        answered 0 (ap (λ (x : Bool). cond (x && (shape_of file).colours) (colours_at file) 0) (sym d)),
        sym (if-false _ _ _ d),
        read-laws.bank-left (read_current b).reply bank file found r n ef judged en z,
      )

-- the place told is at most the length of the longest file, and so is the length told
pub place-small : (r : Reply) (file : List ℕ) → (screen_read r file).colours ≤ 12353
place-small r file = go (is_done r) (shape_of file).colours refl
  where
    go : (d q : Bool) → (shape_of file).colours ≡ q → cond (d && q) (colours_at file) 0 ≤ 12353
    go true true e = omega (arith, short file e)
    go true false e = omega arith
    go false q e = omega arith

pub length-small : (r : Reply) (s : State) → (written_answer r s).length ≤ 12353
length-small r s = go (is_done r)
  where
    go : (d : Bool) → cond d (length_of (mode_in s) s.ports.plus) 0 ≤ 12353
    go true = length_most (mode_in s) s.ports.plus
    go false = omega arith

-- writing goes by the reply and the state of the record that was read
pub written-by-record : (b bank file : List ℕ) (read : RecordRead) (m : Mode) (r : Reply) → read ≡ read_record b → m ≡ mode_in read.state
    → r ≡ write_judged read.reply (length bank) (length file) m → r ≡ lent_write_reply b bank file
written-by-record b bank file read m r e f h =
    h ∙ ap (write_judged read.reply (length bank) (length file)) f
    ∙ ap (λ (a : RecordRead). write_judged a.reply (length bank) (length file) (mode_in a.state)) e
