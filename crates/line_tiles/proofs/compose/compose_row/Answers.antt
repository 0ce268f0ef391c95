-- The dots of the row, the clip over them, and both composed with the line.
use Rattle.line_tiles.proofs.Laid.{composed-row}
use mathlib.Core.Path.{ap, ◌∙◌}
use Rattle.lists.specs.Tab.{tab}
use borrow.Author.Rules.{rules}
use Rattle.line_tiles.proofs.compose.compose_row.Goals as goal

pub returns : goal.returns
returns c =
    let s = c.args in
    composed-row s.stencil s.row.now s.out.now _ _ _ s.columns80 s.skew s.left s.right c.row_dots.ensures (c.clip_dots.ensures ∙ ap (tab _) (search rules)) c.compose_dots.ensures
