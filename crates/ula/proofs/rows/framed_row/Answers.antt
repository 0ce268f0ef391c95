-- The sides of the border and the display between them, each part after the one before it.
use Rattle.ula.proofs.Frames.{line-framed}
use mathlib.Core.Path.{refl}
use borrow.Author.Rules.{rules}
use Rattle.ula.proofs.rows.framed_row.Goals as goal

pub returns : goal.returns
returns c =
    line-framed _ _ _ _ c.args.out.now _ _ _ _ _ _ _ _ _ _ _ c.requires.1 c.requires.2 refl refl refl (search rules) (search rules) (search rules) (search rules) (search rules) c.paint.ensures c.display_row.ensures c.paint-2.ensures
