-- `entry_address` chooses by the size of an entry.
use Rattle.tilemap_entries.specs.Entries.{entry_address}
use native.Mathlib.Omega.{arith}
use mathlib.Core.Path.{sym}
use Rattle.lists.proofs.Cond.{if-true, if-false}
use borrow.Author.Rules.{rules}
use Rattle.tilemap_entries.proofs.entries.entry_address.Goals as goal

pub returns-then-t : goal.returns-then-t
unfolding entry_address
returns-then-t c = (sym (if-true _ _ _ c.if-t.true), omega arith)

pub returns-else-t : goal.returns-else-t
unfolding entry_address
returns-else-t c = (sym (if-false _ _ _ c.if-t.false), omega arith)
