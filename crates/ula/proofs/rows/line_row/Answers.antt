-- The display in its border, the border alone, or nothing.
use Rattle.ula.proofs.Frames.{line-border, line-off}
use borrow.Author.Rules.{rules}
use Rattle.ula.proofs.rows.line_row.Goals as goal

pub returns-else-u-2 : goal.returns-else-u-2
returns-else-u-2 c = line-border _ _ _ _ _ _ (search rules) (search rules) (search rules) c.paint.ensures

pub returns-else-u : goal.returns-else-u
returns-else-u c = line-off _ _ _ _ _ _ (search rules) (search rules) c.paint-else-u.ensures
