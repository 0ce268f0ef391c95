-- What a call that is not refused before its entries has met: of one line, and of the whole.
use Prim.Native.Nat.{ℕ}
use mathlib.Core.Path.{◌≡◌, refl}
use mathlib.Core.List.{List, [], ◌∷◌}
use mathlib.Core.Bool.{true, cond, ◌&&◌}
use lib.Dec.{eqb}
use borrow.Author.Tests.{eqb-true}
use Rattle.lists.proofs.Cond.{left-true, right-true}
use Rattle.reply.specs.declared.Reply.{Reply}
use Rattle.reply.specs.declared.Reply.TheVariants.{Done, BankLength, BufferLength}
use Rattle.reply.proofs.Done.{test-met}
use Rattle.reply.proofs.Order.{all_done}
use Rattle.surface.specs.Lines.{is_line}
use Rattle.surface.specs.declared.lines.LineNumber.{LineNumber}
use Rattle.line_replies.specs.Replies.{line_reply, lengths_reply}
use Rattle.line_replies.proofs.Exits.{line-met, lengths-met}
use Rattle.trace_form.specs.Judged.{trace_reply}
use Rattle.trace_replies.specs.Replies.{asked_reply, whole_lengths, whole_reply}

pub record Met (l : LineNumber) (u v o : ℕ) (q : Reply) (t : List ℕ) : Type 0 where
  pub line : is_line l ≡ true
  pub ula : u ≡ 16384
  pub tile : v ≡ 16384
  pub out : o ≡ 640
  pub own : q ≡ Done
  pub trace : trace_reply t ≡ Done

pub asked-met : (line : LineNumber) (ula tile out : ℕ) (own : Reply) (t : List ℕ) → asked_reply line ula tile out own t ≡ Done → Met line ula tile out own t
unfolding asked_reply
asked-met line ula tile out own t e =
    let h = all_done (line_reply line ∷ lengths_reply ula tile out ∷ own ∷ trace_reply t ∷ []) e in
    let m = lengths-met ula tile out h.1.0 in
    record {
      line = line-met line h.0;
      ula = m.0;
      tile = m.1;
      out = m.2;
      own = h.1.1.0;
      trace = h.1.1.1.0;
    }

pub record MetWhole (u v d r p : ℕ) (q : Reply) (t : List ℕ) : Type 0 where
  pub ula : u ≡ 16384
  pub tile : v ≡ 16384
  pub dots : d ≡ 163840
  pub replies : r ≡ 256
  pub places : p ≡ 256
  pub own : q ≡ Done
  pub trace : trace_reply t ≡ Done

pub whole-met : (ula tile dots replies places : ℕ) (own : Reply) (t : List ℕ) → whole_reply ula tile dots replies places own t ≡ Done
    → MetWhole ula tile dots replies places own t
unfolding whole_reply whole_lengths
whole-met ula tile dots replies places own t e =
    let h = all_done (whole_lengths ula tile dots replies places ∷ own ∷ trace_reply t ∷ []) e in
    let rest = eqb dots 163840 && eqb replies 256 && eqb places 256 in
    let banks = test-met (eqb ula 16384 && eqb tile 16384) (cond rest Done BufferLength) BankLength refl h.0 in
    let three = (test-met rest Done BufferLength refl banks.1).0 in
    let two = left-true (eqb dots 163840 && eqb replies 256) (eqb places 256) three in
    record {
      ula = eqb-true ula 16384 (left-true (eqb ula 16384) (eqb tile 16384) banks.0);
      tile = eqb-true tile 16384 (right-true (eqb ula 16384) (eqb tile 16384) banks.0);
      dots = eqb-true dots 163840 (left-true (eqb dots 163840) (eqb replies 256) two);
      replies = eqb-true replies 256 (right-true (eqb dots 163840) (eqb replies 256) two);
      places = eqb-true places 256 (right-true (eqb dots 163840 && eqb replies 256) (eqb places 256) three);
      own = h.1.0;
      trace = h.1.1.0;
    }
