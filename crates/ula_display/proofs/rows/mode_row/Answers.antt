-- The row of the mode that the view names.
use Rattle.ula_cell.proofs.Fills.{hires-dots}
use Rattle.ula_display.proofs.Shows.{shows-lores, shows-hires, shows-pixels}
use mathlib.Core.Path.{sym, ◌∙◌}
use borrow.Author.Rules.{rules}
use Rattle.ula_display.proofs.rows.mode_row.Goals as goal

pub returns-then-is_lores : goal.returns-then-is_lores
returns-then-is_lores c = c.lores_row.ensures ∙ shows-lores _ _ _ _ _ (sym c.is_lores.ensures ∙ c.if-is_lores.true)

pub returns-then-is_hires : goal.returns-then-is_hires
returns-then-is_hires c =
    c.hires_row.ensures ∙ hires-dots _ _ _ _ _ _ _ c.bit_dots-d.ensures.0 c.bit_dots-d.ensures.1
    ∙ shows-hires _ _ _ _ _ (sym c.is_lores.ensures ∙ c.if-is_lores.false) (sym c.is_hires.ensures ∙ c.if-is_hires.true)

pub returns-else-is_hires : goal.returns-else-is_hires
returns-else-is_hires c =
    c.pixel_row.ensures ∙ shows-pixels _ _ _ _ _ (sym c.is_lores.ensures ∙ c.if-is_lores.false) (sym c.is_hires.ensures ∙ c.if-is_hires.false)
