-- The number of the reply that `draw_layers_record` gives, and the dots that it leaves.
use mathlib.Core.Path.{ap, ◌∙◌}
use Rattle.reply.specs.Reply.{reply_number}
use borrow.Author.Rules.{rules}
use Rattle.capi_pictures.proofs.pictures.narephon_draw_layers.Goals as goal

pub returns : goal.returns
returns c = let r = c.draw_layers_record-r.ensures in (c.from.ensures ∙ ap reply_number r.0, r.1)
