-- The three bits.
use borrow.Author.Rules.{rules}
use Rattle.line_dots.proofs.dots.stencil_on.Goals as goal

pub returns : goal.returns
returns c = cc
