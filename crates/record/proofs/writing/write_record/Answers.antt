-- `write_record` answers what refuses it (Written); where nothing does, its callee puts the record whole.
use mathlib.Core.Path.{sym, ◌∙◌}
use Rattle.reply.proofs.Done.{is-done}
use Rattle.record.proofs.Written.{long-enough, put_whole, left_alone}
use Rattle.record.proofs.writing.write_record.Goals as goal

pub put_record-requires : goal.put_record-requires
put_record-requires c =
    let a = c.args in
    let r = c.write_reply-r in
    long-enough a.target.now a.state r.result r.ensures (is-done r.result (sym c.is_done.ensures ∙ c.if-is_done.true))

pub returns-then-is_done : goal.returns-then-is_done
returns-then-is_done c =
    let a = c.args in
    let r = c.write_reply-r in
    put_whole a.target.now a.state r.result r.ensures _ (is-done r.result (sym c.is_done.ensures ∙ c.if-is_done.true)) c.put_record.ensures

pub returns-else-is_done : goal.returns-else-is_done
returns-else-is_done c =
    let a = c.args in
    let r = c.write_reply-r in
    left_alone a.target.now a.state r.result r.ensures (sym c.is_done.ensures ∙ c.if-is_done.false)
