-- Two bits.
use borrow.Author.Rules.{rules}
use Rattle.line_replies.proofs.replies.next_with_plus.Goals as goal

pub returns : goal.returns
returns c = cc
