-- `map_byte` chooses by what `is_lettered` answers and by the place in the entry.
use mathlib.Core.Path.{sym, ◌∙◌}
use borrow.Author.Tests.{eq-eqb, ne_eqb}
use Rattle.example_banks.specs.Banks.{map_byte}
use borrow.Author.Rules.{rules}
use Rattle.example_banks.proofs.banks.map_byte.Goals as goal

pub returns-then-at-eq0 : goal.returns-then-at-eq0
unfolding map_byte
returns-then-at-eq0 c = rw (sym c.is_lettered.ensures ∙ c.if-is_lettered.true, eq-eqb _ _ c.if-at-eq0.true)

pub returns-else-at-eq0 : goal.returns-else-at-eq0
unfolding map_byte
returns-else-at-eq0 c = rw (sym c.is_lettered.ensures ∙ c.if-is_lettered.true, ne_eqb _ _ c.if-at-eq0.false)

pub returns-else-is_lettered : goal.returns-else-is_lettered
unfolding map_byte
returns-else-is_lettered c = rw (sym c.is_lettered.ensures ∙ c.if-is_lettered.false)
