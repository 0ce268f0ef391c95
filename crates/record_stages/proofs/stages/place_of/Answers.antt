-- The place by the reply; bytes that have a bad field have the length that the walk asks for.
use mathlib.Core.Path.{sym, ◌∙◌}
use native.Mathlib.Omega.{arith}
use Rattle.record_layout.proofs.Whole.{whole_length}
use Rattle.record_layout.proofs.Told.{told-field, told-version, told-else}
use Rattle.record_stages.proofs.stages.place_of.Goals as goal

pub first_bad-requires : goal.first_bad-requires
first_bad-requires c = let a = c.args in omega (arith, (told-field a.v a.b.now a.reply c.requires c.in-BadField.is).long, whole_length a.v)

pub returns-in-BadField : goal.returns-in-BadField
returns-in-BadField c = let a = c.args in c.first_bad.ensures ∙ sym (told-field a.v a.b.now a.reply c.requires c.in-BadField.is).place

pub returns-in-WrongVersion : goal.returns-in-WrongVersion
returns-in-WrongVersion c = let a = c.args in told-version a.v a.b.now a.reply c.requires c.in-WrongVersion.is

pub returns-in_default : goal.returns-in_default
returns-in_default c = let a = c.args in told-else a.v a.b.now a.reply c.requires c.in_default.not-BadField c.in_default.not-WrongVersion
