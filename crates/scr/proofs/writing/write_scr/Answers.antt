-- What is judged of the state is written (Write).
use mathlib.Core.Path.{ap, ◌∙◌}
use lib.ListN.{length}
use Rattle.reply.specs.declared.Reply.{Reply}
use Rattle.state.specs.Lawful.{lawful_reply}
use Rattle.scr_replies.specs.Judged.{write_judged}
use Rattle.scr.specs.Writes.{written_answer, file_after}
use Rattle.scr.proofs.Write.{judged-lengths}
use borrow.Author.Rules.{rules}
use Rattle.scr.proofs.writing.write_scr.Goals as goal

pub write_judged-requires : goal.write_judged-requires
write_judged-requires c = judged-lengths _ _ _ _ c.write_reply-r.result c.write_reply-r.ensures

pub returns : goal.returns
returns c =
    let a = c.args in
    let w = c.write_judged in
    let r = c.write_reply-r.ensures
    ∙ ap (λ (x : Reply). write_judged x (length a.bank.now) (length a.file.now) c.mode_of-mode.result) c.lawful_reply.ensures
    ∙ ap (write_judged (lawful_reply a.s) (length a.bank.now) (length a.file.now)) c.mode_of-mode.ensures in (
      w.ensures.0 ∙ ap (λ (x : Reply). written_answer x a.s) r,
      w.ensures.1 ∙ ap (λ (x : Reply). file_after x a.s a.bank.now a.file.now) r,
    )
