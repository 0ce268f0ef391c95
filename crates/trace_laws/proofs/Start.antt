-- 4 comes from a state's own reply and from nothing else that is asked before entries: each other reply has another number.
use Prim.Native.Nat.{ℕ}
use mathlib.Core.Path.{◌≡◌, refl}
use mathlib.Core.List.{List}
use mathlib.Core.Bool.{◌&&◌}
use lib.Dec.{eqb}
use Rattle.reply.specs.declared.Reply.{Reply}
use Rattle.reply.specs.declared.Reply.TheVariants.{BankLength, BufferLength, NotLawful, BadTrace, LinesFall}
use Rattle.reply.proofs.NotFour.{NotFour, other, done-not-four, two-not-four}
use Rattle.reply.proofs.Order.{hit-each}
use Rattle.surface.specs.declared.lines.LineNumber.{LineNumber}
use Rattle.line_replies.proofs.NotFour.{line-not-four, lengths-not-four}
use Rattle.trace_form.specs.Judged.{headed, all_known, rising, trace_reply}
use Rattle.trace_replies.specs.Replies.{asked_reply, whole_lengths, whole_reply}

trace-not-four : (t : List ℕ) → NotFour (trace_reply t)
unfolding trace_reply
trace-not-four t =
    two-not-four (headed t && all_known t) (rising t) LinesFall BadTrace (other LinesFall refl) (other BadTrace refl)

whole-lengths-not-four : (ula tile dots replies places : ℕ) → NotFour (whole_lengths ula tile dots replies places)
unfolding whole_lengths
whole-lengths-not-four ula tile dots replies places =
    two-not-four (eqb ula 16384 && eqb tile 16384) (eqb dots 163840 && eqb replies 256 && eqb places 256) BufferLength BankLength
    (other BufferLength refl) (other BankLength refl)

-- a reply that is 4 only where a state's own is
abbrev OwnFour : Reply → Reply → Type 0
OwnFour own r = r ≡ NotLawful → own ≡ NotLawful

not_own : (own r : Reply) → NotFour r → OwnFour own r
not_own own r h e = absurd (h e)

pub asked-four : (line : LineNumber) (ula tile out : ℕ) (own : Reply) (t : List ℕ) → OwnFour own (asked_reply line ula tile out own t)
unfolding asked_reply
asked-four line ula tile out own t =
    hit-each (OwnFour own) _ (not_own own _ done-not-four)
    (not_own own _ (line-not-four line), (not_own own _ (lengths-not-four ula tile out), ((λ e. e), (not_own own _ (trace-not-four t), tt))))

pub whole_four : (ula tile dots replies places : ℕ) (own : Reply) (t : List ℕ) → OwnFour own (whole_reply ula tile dots replies places own t)
unfolding whole_reply
whole_four ula tile dots replies places own t =
    hit-each (OwnFour own) _ (not_own own _ done-not-four)
    (not_own own _ (whole-lengths-not-four ula tile dots replies places), ((λ e. e), (not_own own _ (trace-not-four t), tt)))
