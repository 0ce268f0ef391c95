-- `narephon_write_scr` takes the answer apart; the length is at most that of the longest file, so it fits.
use Prim.Native.Nat.{◌≤◌}
use native.Mathlib.Omega.{arith}
use mathlib.Core.Path.{ap, ◌∙◌}
use Rattle.reply.specs.Reply.{reply_number}
use Rattle.scr.specs.declared.writing.Written.{Written}
use Rattle.record_layout.specs.Record.{read_record}
use Rattle.lent_scr.specs.Screens.{lent_write_reply}
use Rattle.lent_scr.proofs.Exits.{length-small}
use borrow.Author.Rules.{rules}
use Rattle.capi.proofs.screens.narephon_write_scr.Goals as goal

pub overflow_cast-length : goal.overflow_cast-length
overflow_cast-length c =
    let a = c.args in
    let w = c.write_scr_record-written in
    let h : w.result.length ≤ 12353 = rw w.ensures.0 (length-small (lent_write_reply a.bytes.now a.bank.now a.file.now) (read_record a.bytes.now).state) in
    omega arith
