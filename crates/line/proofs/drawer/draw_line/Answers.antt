-- The composed line, and the fallback over it.
use Rattle.line.proofs.Layers.{finished-line}
use borrow.Author.Rules.{rules}
use Rattle.line.proofs.drawer.draw_line.Goals as goal

pub returns : goal.returns
returns c = finished-line _ _ _ _ _ _ _ c.finish_line.ensures c.composed_line.ensures c.widen.ensures
