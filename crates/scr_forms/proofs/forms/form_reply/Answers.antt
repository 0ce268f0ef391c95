-- One of two replies, as the row says.
use Rattle.scr_forms.proofs.Rows.{no-form, a-form}
use borrow.Author.Rules.{rules}
use Rattle.scr_forms.proofs.forms.form_reply.Goals as goal

pub returns-then-row-eq0 : goal.returns-then-row-eq0
returns-then-row-eq0 c =
    let r = c.row_of-row in
    no-form c.args.mode r.result r.ensures.0 c.if-row-eq0.true

pub returns-else-row-eq0 : goal.returns-else-row-eq0
returns-else-row-eq0 c =
    let r = c.row_of-row in
    a-form c.args.mode r.result r.ensures.0 c.if-row-eq0.false
