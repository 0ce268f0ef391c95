-- The reply's number, and the three buffers by the reply.
use mathlib.Core.Path.{ap, ◌∙◌}
use Rattle.reply.specs.Reply.{reply_number}
use borrow.Author.Rules.{rules}
use Rattle.capi_trace.proofs.calls.narephon_draw_carried.Goals as goal

pub returns : goal.returns
returns c =
    let e = c.draw_carried_record-r.ensures in
    (c.from.ensures ∙ ap reply_number e.0, rw e.0 at e.1, rw e.0 at e.2, rw e.0 at e.3)
