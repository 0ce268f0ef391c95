-- What is judged of the record's reply and state is written.
use mathlib.Core.Path.{ap, ◌∙◌}
use Rattle.reply.specs.declared.Reply.{Reply}
use Rattle.record_layout.specs.declared.RecordRead.{RecordRead}
use Rattle.record_layout.specs.Record.{read_record}
use Rattle.scr.specs.Writes.{written_answer, file_after}
use Rattle.scr.proofs.Write.{judged-lengths}
use Rattle.lent_scr.proofs.Exits.{written-by-record}
use borrow.Author.Rules.{rules}
use Rattle.lent_scr.proofs.writing.write_scr_record.Goals as goal

pub write_judged-requires : goal.write_judged-requires
write_judged-requires c = judged-lengths _ _ _ _ c.write_reply-r.result c.write_reply-r.ensures

pub returns : goal.returns
returns c =
    let a = c.args in
    let b = c.read_record-read in
    let m = c.mode_of-mode in
    let q = c.write_reply-r in
    let w = c.write_judged in
    let r = written-by-record a.bytes.now a.bank.now a.file.now b.result m.result q.result b.ensures m.ensures q.ensures in (
      w.ensures.0 ∙ ap (λ (x : RecordRead). written_answer q.result x.state) b.ensures
          ∙ ap (λ (x : Reply). written_answer x (read_record a.bytes.now).state) r,
      w.ensures.1 ∙ ap (λ (x : RecordRead). file_after q.result x.state a.bank.now a.file.now) b.ensures
          ∙ ap (λ (x : Reply). file_after x (read_record a.bytes.now).state a.bank.now a.file.now) r,
    )
