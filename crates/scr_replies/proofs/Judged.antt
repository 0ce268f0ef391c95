-- What is known of a reading and of a writing that nothing refuses, and that nothing refuses one of which it is known.
use Prim.Native.Nat.{ℕ}
use mathlib.Core.Path.{◌≡◌, refl}
use mathlib.Core.List.{[], ◌∷◌}
use mathlib.Core.Bool.{true}
use borrow.Author.Tests.{eqb-true, eq-eqb}
use Rattle.reply.specs.declared.Reply.{Reply}
use Rattle.reply.specs.declared.Reply.TheVariants.{Done, BankLength, BufferLength, NoForm}
use Rattle.reply.specs.First.{first_of, first_hit}
use Rattle.reply.proofs.Done.{test-met}
use Rattle.reply.proofs.Order.{all_done}
use Rattle.line_replies.specs.Replies.{is_bank}
use Rattle.ula_mode.specs.declared.modes.Mode.{Mode}
use Rattle.scr_forms.specs.Forms.{has_form, form_reply}
use Rattle.scr_replies.specs.Judged.{bank_reply, file_length, file_reply, read_judged, write_judged}

bank-sized : (n : ℕ) → bank_reply n ≡ Done → n ≡ 16384
bank-sized n e = eqb-true n 16384 (test-met (is_bank n) Done BankLength refl e).0

mode-formed : (m : Mode) → form_reply m ≡ Done → has_form m ≡ true
mode-formed m e = (test-met (has_form m) Done NoForm refl e).0

pub record Readable (state : Reply) (bank : ℕ) (mode : Mode) : Type 0 where
  pub sized : bank ≡ 16384
  pub sound : state ≡ Done
  pub formed : has_form mode ≡ true

pub readable : (state : Reply) (bank : ℕ) (mode : Mode) → read_judged state bank mode ≡ Done → Readable state bank mode
unfolding read_judged
readable state bank mode e =
    let a = all_done (bank_reply bank ∷ state ∷ form_reply mode ∷ []) e in
    record { sized = bank-sized bank a.0; sound = a.1.0; formed = mode-formed mode a.1.1.0 }

pub reads : (state : Reply) (bank : ℕ) (mode : Mode) → Readable state bank mode → read_judged state bank mode ≡ Done
unfolding read_judged first_hit first_of
reads state bank mode a = rw (eq-eqb bank 16384 a.sized, a.sound, a.formed)

pub record Writable (state : Reply) (bank file : ℕ) (mode : Mode) : Type 0 where
  pub sized : bank ≡ 16384
  pub long : file ≡ file_length
  pub sound : state ≡ Done
  pub formed : has_form mode ≡ true

pub writable : (state : Reply) (bank file : ℕ) (mode : Mode) → write_judged state bank file mode ≡ Done → Writable state bank file mode
unfolding write_judged
writable state bank file mode e =
    let a = all_done (bank_reply bank ∷ file_reply file ∷ state ∷ form_reply mode ∷ []) e in
    record {
      sized = bank-sized bank a.0;
      long = eqb-true file file_length (test-met _ Done BufferLength refl a.1.0).0;
      sound = a.1.1.0;
      formed = mode-formed mode a.1.1.1.0;
    }

pub writes : (state : Reply) (bank file : ℕ) (mode : Mode) → Writable state bank file mode → write_judged state bank file mode ≡ Done
unfolding write_judged first_hit first_of
writes state bank file mode a = rw (eq-eqb bank 16384 a.sized, eq-eqb file file_length a.long, a.sound, a.formed)
