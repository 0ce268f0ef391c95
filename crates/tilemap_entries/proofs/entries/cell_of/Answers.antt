-- `cell_of` chooses by its flag.
use native.Mathlib.Omega.{arith}
use borrow.Author.Rules.{rules}
use Rattle.tilemap_entries.proofs.entries.cell_of.Goals as goal

pub returns-then-columns80 : goal.returns-then-columns80
returns-then-columns80 c = (rw c.if-columns80.true, omega arith)

pub returns-else-columns80 : goal.returns-else-columns80
returns-else-columns80 c = (rw c.if-columns80.false, omega arith)
