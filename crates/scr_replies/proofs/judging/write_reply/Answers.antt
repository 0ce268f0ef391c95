-- The four refusals in their order.
use mathlib.Core.Path.{refl}
use Rattle.reply.proofs.Order.{last-hit, next-hit}
use Rattle.scr_replies.specs.Judged.{write_judged}
use borrow.Author.Rules.{rules}
use Rattle.scr_replies.proofs.judging.write_reply.Goals as goal

pub returns : goal.returns
unfolding write_judged
returns c =
    let last = next-hit _ _ _ _ _ refl (last-hit _ _ c.form_reply.ensures) c.first_of-last.ensures in
    next-hit _ _ _ _ _ c.bank_reply-sized.ensures
    (next-hit _ _ _ _ _ c.length_reply-long.ensures last c.first_of.ensures)
    c.first_of-2.ensures
