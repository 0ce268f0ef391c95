-- Each arm is the row of its mode.
use Rattle.ula_mode.specs.declared.modes.Mode.TheVariants.{Lores, Standard, Second, HighColour, HighResolution, Missing}
use Rattle.scr_forms.proofs.Rows.{row_told}
use borrow.Author.Rules.{rules}
use Rattle.scr_forms.proofs.forms.row_of.Goals as goal

pub returns-in-Lores : goal.returns-in-Lores
returns-in-Lores c = row_told _ Lores _ c.in-Lores.is c.form.ensures

pub returns-in-Standard : goal.returns-in-Standard
returns-in-Standard c = row_told _ Standard _ c.in-Standard.is c.form-in-Standard.ensures

pub returns-in-Second : goal.returns-in-Second
returns-in-Second c = row_told _ Second _ c.in-Second.is c.form-in-Second.ensures

pub returns-in-HighColour : goal.returns-in-HighColour
returns-in-HighColour c = row_told _ HighColour _ c.in-HighColour.is c.form-in-HighColour.ensures

pub returns-in-HighResolution : goal.returns-in-HighResolution
returns-in-HighResolution c = row_told _ HighResolution _ c.in-HighResolution.is c.form-in-HighResolution.ensures

pub returns-in-Missing : goal.returns-in-Missing
returns-in-Missing c = row_told _ Missing _ c.in-Missing.is c.form-in-Missing.ensures
