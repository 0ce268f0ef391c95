-- The record of the reset state where the bytes are as many as a record has.
use mathlib.Core.Path.{sym, ap, ◌∙◌}
use borrow.Author.Tests.{eq-eqb, ne_eqb}
use Rattle.lists.proofs.Cond.{if-true, if-false}
use Rattle.record_layout.specs.Record.{record_of}
use borrow.Author.Rules.{rules}
use Rattle.lent.proofs.changes.reset_record.Goals as goal

pub returns-then-bytes-length_of : goal.returns-then-bytes-length_of
returns-then-bytes-length_of c =
    let e = eq-eqb _ _ (c.if-bytes-length_of.true ∙ c.length_of.ensures) in
    (sym (if-true _ _ _ e), c.put_record.ensures ∙ ap record_of c.reset.ensures ∙ sym (if-true _ _ _ e))

pub returns-else-bytes-length_of : goal.returns-else-bytes-length_of
returns-else-bytes-length_of c =
    let e = ne_eqb _ _ (λ z. c.if-bytes-length_of.false (z ∙ sym c.length_of.ensures)) in (sym (if-false _ _ _ e), sym (if-false _ _ _ e))
