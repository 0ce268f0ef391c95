-- `cell_shades` writes what its entry shows, which is eight shades of the row.
use Rattle.tilemap.proofs.Rows.{cell-shades}
use mathlib.Core.Path.{◌∙◌}
use Rattle.tilemap.proofs.cells.cell_shades.Goals as goal

pub returns : goal.returns
returns c =
    c.entry_shades.ensures
    ∙ cell-shades _ _ _ _ _ _ _ _ c.requires.3
    c.wrapped-tx.ensures.0 c.cell_of.ensures.0 c.entry_at-e.ensures.0
