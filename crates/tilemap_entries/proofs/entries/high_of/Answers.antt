-- `high_of` chooses by the size of an entry.
use Rattle.tilemap_entries.specs.Entries.{high_of}
use native.Mathlib.Omega.{arith}
use mathlib.Core.Path.{sym, ◌∙◌}
use Rattle.lists.proofs.Cond.{if-true, if-false}
use borrow.Author.Rules.{rules}
use Rattle.tilemap_entries.proofs.entries.high_of.Goals as goal

pub returns-then-t : goal.returns-then-t
unfolding high_of
returns-then-t c = (sym (if-true _ _ _ c.if-t.true), omega arith)

pub returns-else-t : goal.returns-else-t
unfolding high_of
returns-else-t c = (c.fetch.ensures.0 ∙ sym (if-false _ _ _ c.if-t.false), search rules)
