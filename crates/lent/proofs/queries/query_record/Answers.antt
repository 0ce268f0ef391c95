-- What the state in the record answers, or the refusal of the record.
use mathlib.Core.Path.{sym, ◌∙◌}
use Rattle.lent.specs.Calls.{asked}
use Rattle.lent.proofs.Exits.{told, untold}
use borrow.Author.Rules.{rules}
use Rattle.lent.proofs.queries.query_record.Goals as goal

pub returns-then-is_done : goal.returns-then-is_done
returns-then-is_done c =
    let s = c.args in
    let read = c.read_record-read in
    told s.bytes.now read.result read.ensures (asked s.q) _ (sym c.is_done.ensures ∙ c.if-is_done.true) c.ask.ensures

pub returns-else-is_done : goal.returns-else-is_done
returns-else-is_done c =
    let s = c.args in
    let read = c.read_record-read in
    untold s.bytes.now read.result read.ensures (asked s.q) (sym c.is_done.ensures ∙ c.if-is_done.false)
