-- The three exits (Found).
use mathlib.Core.Path.{sym, ◌∙◌}
use native.Mathlib.Omega.{arith}
use Rattle.desk_places.proofs.Judged.{formed-long}
use Rattle.desk_places.proofs.Found.{find-good, find-bad}
use Rattle.desk_places.proofs.places.find.Goals as goal

pub returns-then-not-well_formed : goal.returns-then-not-well_formed
returns-then-not-well_formed c = find-bad _ _ (sym c.well_formed-2.ensures ∙ c.if-not-well_formed.true)

pub first_of-requires : goal.first_of-requires
first_of-requires c = (formed-long _ (sym c.well_formed-2.ensures ∙ c.if-not-well_formed.false), omega arith)

pub returns-in_default : goal.returns-in_default
returns-in_default c = find-good _ _ _ (sym c.well_formed-2.ensures ∙ c.if-not-well_formed.false) c.in_default.ensures

pub returns : goal.returns
returns c = find-good _ _ _ (sym c.well_formed-2.ensures ∙ c.if-not-well_formed.false) c.in-Some.ensures
