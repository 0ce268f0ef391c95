-- `same_turn` compares with the transpose where the turn rotates.
use Rattle.pack_turns.proofs.Rows.{turned_rows}
use borrow.Author.Tests.{eq-eqb, ne_eqb}
use mathlib.Core.Bool.{true, false}
use mathlib.Core.Path.{◌∙◌}
use borrow.Author.Rules.{rules}
use Rattle.pack_turns.proofs.turns.same_turn.Goals as goal

pub returns-then-t-eq1 : goal.returns-then-t-eq1
returns-then-t-eq1 c = rw c.requires at c.same.ensures ∙ turned_rows _ _ _ true (eq-eqb _ _ c.if-t-eq1.true)

pub returns-else-t-eq1 : goal.returns-else-t-eq1
returns-else-t-eq1 c = c.same-else-t-eq1.ensures ∙ turned_rows _ _ _ false (ne_eqb _ _ c.if-t-eq1.false)
