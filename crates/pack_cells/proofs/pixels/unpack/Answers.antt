-- The halves of the cell's bytes are its pixels.
use Rattle.pack_cells.proofs.Bytes.{pixels-of}
use mathlib.Core.Path.{◌∙◌}
use borrow.Author.Rules.{rules}
use Rattle.pack_cells.proofs.pixels.unpack.Goals as goal

pub returns : goal.returns
returns c = c.halves.ensures ∙ pixels-of _ _ _ c.cell_bytes.ensures
