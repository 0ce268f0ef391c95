-- The rule of the weights, once over the whole table: its 64 entries are computed to be those of the rule.
use Rattle.pack_classes.specs.Mark.{weight_at}
use Rattle.lists.specs.Tab.{tab}
use mathlib.Core.Path.{refl}
use borrow.Author.Rules.{rules}
use Rattle.pack_cells.proofs.marks.mark.Goals as goal

pub sum-requires : goal.sum-requires
unfolding tab weight_at
sum-requires c = (search rules, refl)
