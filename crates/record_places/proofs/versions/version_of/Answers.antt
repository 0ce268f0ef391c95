-- One of two versions, as the length says.
use mathlib.Core.Path.{sym}
use borrow.Author.Tests.{eq-eqb, ne_eqb}
use Rattle.lists.proofs.Cond.{if-true, if-false}
use Rattle.record_places.proofs.versions.version_of.Goals as goal

pub returns-then-length-eq-LENGTH : goal.returns-then-length-eq-LENGTH
returns-then-length-eq-LENGTH c = sym (if-true _ _ _ (eq-eqb _ _ c.if-length-eq-LENGTH.true))

pub returns-else-length-eq-LENGTH : goal.returns-else-length-eq-LENGTH
returns-else-length-eq-LENGTH c = sym (if-false _ _ _ (ne_eqb _ _ c.if-length-eq-LENGTH.false))
