-- The row tells whether the byte is there, and where.
use lib.ListN.{length}
use Rattle.scr_forms.proofs.Rows.{port-there, port-read, port-own}
use borrow.Author.Rules.{rules}
use Rattle.scr_forms.proofs.files.port_in.Goals as goal

pub bounds-file-at : goal.bounds-file-at
bounds-file-at c =
    let r = c.row_of-row in
    let h = port-there c.args.mode r.result r.ensures.0 (length c.args.file.now) c.if-row-eq1.true c.requires in
    search (rules, h)

pub returns-then-row-eq1 : goal.returns-then-row-eq1
returns-then-row-eq1 c =
    let r = c.row_of-row in
    port-read c.args.mode r.result r.ensures.0 c.args.file.now c.if-row-eq1.true

pub returns-else-row-eq1 : goal.returns-else-row-eq1
returns-else-row-eq1 c =
    let r = c.row_of-row in
    port-own c.args.mode r.result r.ensures.0 c.args.file.now c.if-row-eq1.false
