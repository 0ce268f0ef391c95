-- The record of an answer that is done is put, and the lent one stays after any other.
use mathlib.Core.Path.{◌∙◌, sym}
use Rattle.lent.proofs.Exits.{stored, left}
use borrow.Author.Rules.{rules}
use Rattle.lent.proofs.changes.store.Goals as goal

pub returns-then-is_done : goal.returns-then-is_done
returns-then-is_done c =
    let a = c.args in
    c.put_record.ensures ∙ stored a.bytes.now a.a (sym c.is_done.ensures ∙ c.if-is_done.true)

pub returns-else-is_done : goal.returns-else-is_done
returns-else-is_done c = let a = c.args in left a.bytes.now a.a (sym c.is_done.ensures ∙ c.if-is_done.false)
