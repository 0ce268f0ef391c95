-- The number of the reply that `change_record` gives, and the bytes that it leaves.
use mathlib.Core.Path.{ap, ◌∙◌}
use Rattle.reply.specs.Reply.{reply_number}
use borrow.Author.Rules.{rules}
use Rattle.capi.proofs.changes.narephon_next_frame.Goals as goal

pub returns : goal.returns
returns c = let r = c.change_record.ensures in (c.from.ensures ∙ ap reply_number r.0, r.1)
