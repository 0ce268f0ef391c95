-- The number of the reply that `draw_record` gives, and the bytes that it leaves.
use mathlib.Core.Path.{ap, ◌∙◌}
use Rattle.reply.specs.Reply.{reply_number}
use borrow.Author.Rules.{rules}
use Rattle.capi_pictures.proofs.pictures.narephon_draw.Goals as goal

pub returns : goal.returns
returns c = let r = c.draw_record-r.ensures in (c.from.ensures ∙ ap reply_number r.0, r.1)
