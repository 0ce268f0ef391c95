-- Two bits.
use borrow.Author.Rules.{rules}
use Rattle.line_replies.proofs.replies.lores_with_tiles.Goals as goal

pub returns : goal.returns
returns c = cc
