-- `narephon_read_scr` takes the answer apart; the place is at most the length of the longest file, so it fits.
use Prim.Native.Nat.{◌≤◌}
use native.Mathlib.Omega.{arith}
use mathlib.Core.Path.{ap, ◌∙◌}
use Rattle.reply.specs.Reply.{reply_number}
use Rattle.lent_scr.specs.declared.reading.ScreenRead.{ScreenRead}
use Rattle.lent_scr.specs.Screens.{lent_read_reply}
use Rattle.lent_scr.proofs.Exits.{place-small}
use borrow.Author.Rules.{rules}
use Rattle.capi.proofs.screens.narephon_read_scr.Goals as goal

pub overflow_cast-colours : goal.overflow_cast-colours
overflow_cast-colours c =
    let a = c.args in
    let w = c.read_scr_record-read in
    let h : w.result.colours ≤ 12353 = rw w.ensures.0 (place-small (lent_read_reply a.bytes.now a.bank.now a.file.now) a.file.now) in
    omega arith
