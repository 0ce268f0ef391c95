-- The order of refusals: what a drawing that is not refused has met, and what `draw` leaves.
use Prim.Native.Nat.{ℕ}
use mathlib.Core.Path.{◌≡◌, refl, sym, ap, ◌∙◌}
use mathlib.Core.List.{List, [], ◌∷◌}
use mathlib.Core.Bool.{true, false, cond, ◌&&◌}
use lib.Dec.{eqb}
use borrow.Author.Tests.{eqb-true}
use Rattle.lists.proofs.Cond.{if-true, if-false, left-true, right-true}
use Rattle.reply.specs.Reply.{is_done}
use Rattle.reply.specs.declared.Reply.{Reply}
use Rattle.reply.specs.declared.Reply.TheVariants.{Done, NoLine, BankLength, BufferLength, NotLawful}
use Rattle.reply.proofs.Done.{is-done, test-met}
use Rattle.reply.proofs.Order.{all_done}
use Rattle.state.specs.Lawful.{lawful_state, lawful_reply}
use Rattle.state.specs.declared.State.{State}
use Rattle.surface.specs.Lines.{is_line}
use Rattle.surface.specs.declared.lines.LineNumber.{LineNumber}
use Rattle.line_replies.specs.Replies.{line_reply, lengths_reply, state_reply, draw_reply, drawn_if}

pub line-met : (l : LineNumber) → line_reply l ≡ Done → is_line l ≡ true
unfolding line_reply
line-met l d = (test-met (is_line l) Done NoLine refl d).0

pub lengths-met : (u t o : ℕ) → lengths_reply u t o ≡ Done → (u ≡ 16384) × (t ≡ 16384) × (o ≡ 640)
unfolding lengths_reply
lengths-met u t o d =
    let h = test-met (eqb u 16384 && eqb t 16384) (cond (eqb o 640) Done BufferLength) BankLength refl d in (
      eqb-true u 16384 (left-true (eqb u 16384) (eqb t 16384) h.0),
      eqb-true t 16384 (right-true (eqb u 16384) (eqb t 16384) h.0),
      eqb-true o 640 (test-met (eqb o 640) Done BufferLength refl h.1).0,
    )

pub record Judged (l : LineNumber) (u t o : ℕ) (s : State) : Type 0 where
  pub line : is_line l ≡ true
  pub ula : u ≡ 16384
  pub tile : t ≡ 16384
  pub out : o ≡ 640
  pub lawful : lawful_state s ≡ true

pub judged : (line : LineNumber) (ula tile out : ℕ) (s : State) (r : Reply) → r ≡ draw_reply line ula tile out s → is_done r ≡ true → Judged line ula tile out s
unfolding draw_reply
judged line ula tile out s r e n =
    let h = all_done (line_reply line ∷ lengths_reply ula tile out ∷ lawful_reply s ∷ state_reply s.ula s.tiles s.palette s.ports ∷ []) (sym e ∙ is-done r n) in
    let m = lengths-met ula tile out h.1.0 in
    record {
      line = line-met line h.0;
      ula = m.0;
      tile = m.1;
      out = m.2;
      lawful = (test-met (lawful_state s) Done NotLawful refl h.1.1.0).0;
    }

-- the line afterwards, drawn or left
pub drawn : (r q : Reply) (whole after out : List ℕ) → r ≡ q → is_done r ≡ true → after ≡ whole → after ≡ drawn_if q whole out
unfolding drawn_if
drawn r q whole after out e n d = d ∙ sym (if-true _ _ _ (ap is_done (sym e) ∙ n))

pub left : (r q : Reply) (whole out : List ℕ) → r ≡ q → is_done r ≡ false → out ≡ drawn_if q whole out
unfolding drawn_if
left r q whole out e n = sym (if-false _ _ _ (ap is_done (sym e) ∙ n))
