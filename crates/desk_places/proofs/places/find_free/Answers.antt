-- 21 first (Found).
use mathlib.Core.Path.{sym, ◌∙◌}
use Rattle.desk_places.proofs.Judged.{formed-long}
use Rattle.desk_places.proofs.Found.{open-formed, open-bad}
use borrow.Author.Rules.{rules}
use Rattle.desk_places.proofs.places.find_free.Goals as goal

pub free_for-requires : goal.free_for-requires
free_for-requires c = formed-long _ (sym c.well_formed-2.ensures ∙ c.if-well_formed.true)

pub returns-then-well_formed : goal.returns-then-well_formed
returns-then-well_formed c = open-formed _ _ _ (sym c.well_formed-2.ensures ∙ c.if-well_formed.true) c.free_for.ensures

pub returns-else-well_formed : goal.returns-else-well_formed
returns-else-well_formed c = open-bad _ _ (sym c.well_formed-2.ensures ∙ c.if-well_formed.false)
