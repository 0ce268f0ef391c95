-- The answer on the state in the record is stored, or the record is refused (Exits).
use mathlib.Core.Path.{sym, ◌∙◌}
use Rattle.lent.specs.Calls.{changed}
use Rattle.lent.proofs.Exits.{read-lawful, read-long, answered, unchanged, changed-by}
use borrow.Author.Rules.{rules}
use Rattle.lent.proofs.changes.change_record.Goals as goal

pub apply-a-requires : goal.apply-a-requires
apply-a-requires c =
    read-lawful c.args.bytes.now _ c.read_current-read.ensures (sym c.is_done.ensures ∙ c.if-is_done.true)

pub store-requires : goal.store-requires
store-requires c =
    read-long c.args.bytes.now _ c.read_current-read.ensures (sym c.is_done.ensures ∙ c.if-is_done.true)

pub returns-then-is_done : goal.returns-then-is_done
returns-then-is_done c =
    let a = c.args in
    let read = c.read_current-read in
    let made = c.apply-a in
    changed-by (changed a.c) a.bytes.now made.result _
    (answered a.bytes.now read.result read.ensures (changed a.c) made.result (sym c.is_done.ensures ∙ c.if-is_done.true) made.ensures)
    c.store.ensures

pub returns-else-is_done : goal.returns-else-is_done
returns-else-is_done c =
    let a = c.args in
    let read = c.read_current-read in
    unchanged a.bytes.now read.result read.ensures (changed a.c) (sym c.is_done.ensures ∙ c.if-is_done.false)
