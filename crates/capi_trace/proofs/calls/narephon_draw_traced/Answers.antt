-- The answer taken apart.
use mathlib.Core.Path.{ap, ◌∙◌}
use Rattle.reply.specs.Reply.{reply_number}
use Rattle.trace.specs.declared.alone.Traced.{Traced}
use borrow.Author.Rules.{rules}
use Rattle.capi_trace.proofs.calls.narephon_draw_traced.Goals as goal

pub returns : goal.returns
returns c =
    let e = c.draw_traced_record-got.ensures in
    (c.from.ensures ∙ ap (λ (x : Traced). reply_number x.reply) e.0, e.1, ap (λ (x : Traced). x.place) e.0)
