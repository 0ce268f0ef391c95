-- `turned` exchanges the two coordinates under rotate.
use Rattle.tilemap_turns.specs.Turns.{column_of, row_of}
use borrow.Author.Tests.{eq-eqb, ne_eqb}
use borrow.Author.Rules.{rules}
use Rattle.tilemap_turns.proofs.turns.turned.Goals as goal

pub returns-then-turn-eq1 : goal.returns-then-turn-eq1
unfolding column_of row_of
returns-then-turn-eq1 c =
    (rw (eq-eqb _ _ c.if-turn-eq1.true) c.mirror-b.ensures.0, rw (eq-eqb _ _ c.if-turn-eq1.true) c.mirror-a.ensures.0, search rules, search rules)

pub returns-else-turn-eq1 : goal.returns-else-turn-eq1
unfolding column_of row_of
returns-else-turn-eq1 c =
    (rw (ne_eqb _ _ c.if-turn-eq1.false) c.mirror-a.ensures.0, rw (ne_eqb _ _ c.if-turn-eq1.false) c.mirror-b.ensures.0, search rules, search rules)
