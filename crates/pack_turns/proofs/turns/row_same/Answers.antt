-- Two rows are equal where their numbers are.
use Rattle.pack_turns.proofs.Rows.{rows_same_lem}
use borrow.Author.Rules.{rules}
use Rattle.pack_turns.proofs.turns.row_same.Goals as goal

pub returns-then-back : goal.returns-then-back
returns-then-back c = rw c.if-back.true (rows_same_lem _ _ _ _ _ _ _ c.row-a.ensures c.row-b.ensures)

pub returns-else-back : goal.returns-else-back
returns-else-back c = rw c.if-back.false (rows_same_lem _ _ _ _ _ _ _ c.row-a.ensures c.row-f.ensures)
