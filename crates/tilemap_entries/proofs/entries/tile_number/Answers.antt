-- `tile_number` chooses by whether the ULA is on.
use Rattle.tilemap_entries.specs.Entries.{tile_number}
use native.Mathlib.Omega.{arith}
use mathlib.Core.Path.{sym}
use Rattle.lists.proofs.Cond.{if-true, if-false}
use borrow.Author.Rules.{rules}
use Rattle.tilemap_entries.proofs.entries.tile_number.Goals as goal

pub returns-then-t : goal.returns-then-t
unfolding tile_number
returns-then-t c = (sym (if-true _ _ _ c.if-t.true), omega arith)

pub returns-else-t : goal.returns-else-t
unfolding tile_number
returns-else-t c = (sym (if-false _ _ _ c.if-t.false), omega arith)
