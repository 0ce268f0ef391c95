-- Two tests on what the calls ensure.
use borrow.Author.Rules.{rules}
use Rattle.line_replies.proofs.replies.no_mode.Goals as goal

pub returns : goal.returns
returns c = cc
