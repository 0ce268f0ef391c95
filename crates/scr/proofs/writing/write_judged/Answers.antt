-- The screen where the reply is done (Write), else the buffer as it was.
use mathlib.Core.Path.{sym, ◌∙◌}
use Rattle.scr.proofs.Write.{written, unwritten}
use borrow.Author.Rules.{rules}
use Rattle.scr.proofs.writing.write_judged.Goals as goal

pub put_screen-length-requires : goal.put_screen-length-requires
put_screen-length-requires c =
    let n = c.is_done in
    c.requires (sym n.ensures ∙ c.if-is_done.true)

pub returns-then-is_done : goal.returns-then-is_done
returns-then-is_done c =
    let a = c.args in
    let n = c.is_done in
    let w = c.put_screen-length in
    written a.r a.s a.bank.now a.file.now n.result n.ensures c.if-is_done.true w.result _ w.ensures.0 w.ensures.1

pub returns-else-is_done : goal.returns-else-is_done
returns-else-is_done c =
    let a = c.args in
    let n = c.is_done in
    unwritten a.r a.s a.bank.now a.file.now n.result n.ensures c.if-is_done.false
