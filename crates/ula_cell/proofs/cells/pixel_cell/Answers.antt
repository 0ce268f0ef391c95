-- The cell's byte and attribute choose its two dots; they are the pixels of the display that it covers.
use mathlib.Core.Path.{refl, ◌∙◌}
use Rattle.ula_cell.proofs.Fills.{pixel-fill}
use borrow.Author.Rules.{rules}
use Rattle.ula_cell.proofs.cells.pixel_cell.Goals as goal

pub returns : goal.returns
returns c =
    c.pixels.ensures
    ∙ pixel-fill _ _ _ _ _ c.args.bits c.args.cells _ _ _ _ _ _ c.cell_column-column.ensures.1 c.requires.1 c.requires.2 refl refl (search rules) (search rules)
