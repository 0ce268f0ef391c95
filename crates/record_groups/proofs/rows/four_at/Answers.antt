-- Four bytes in a row, by computation.
use native.Mathlib.Nat.{add-zero}
use Rattle.lists.specs.Tab.{tab}
use borrow.Author.Rules.{rules}
use Rattle.record_groups.proofs.rows.four_at.Goals as goal

pub returns : goal.returns
unfolding tab
returns c = rw add-zero
