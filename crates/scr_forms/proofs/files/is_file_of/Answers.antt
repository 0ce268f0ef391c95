-- The length, then the port: both by the row.
use native.Mathlib.Omega.{arith}
use Rattle.scr_forms.proofs.Rows.{row-length, file-by-port, file-not}
use borrow.Author.Rules.{rules}
use Rattle.scr_forms.proofs.files.is_file_of.Goals as goal

pub port_in-requires : goal.port_in-requires
port_in-requires c =
    let r = c.row_of-row in
    let q = c.colours_size in
    let n = row-length c.args.mode r.result r.ensures.0 c.args.colours q.result q.ensures.0 in
    omega (arith, c.if-file-n.true, n)

pub returns-then-file-n : goal.returns-then-file-n
returns-then-file-n c =
    let r = c.row_of-row in
    let q = c.colours_size in
    let p = c.port_in in
    file-by-port c.args.mode r.result r.ensures.0 c.args.colours c.args.file.now q.result p.result q.ensures.0 c.if-file-n.true p.ensures

pub returns-else-file-n : goal.returns-else-file-n
returns-else-file-n c =
    let r = c.row_of-row in
    let q = c.colours_size in
    file-not c.args.mode r.result r.ensures.0 c.args.colours c.args.file.now q.result q.ensures.0 c.if-file-n.false
