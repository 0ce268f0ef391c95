-- The refused entry or the state refuses; a line that nothing refuses is drawn.
use mathlib.Core.Path.{sym, ap, ◌∙◌}
use Rattle.reply.specs.First.{first_of}
use Rattle.line_replies.proofs.Exits.{drawn, left}
use Rattle.trace_replies.specs.Replies.{run_reply}
use Rattle.trace.specs.Lines.{run_dots}
use borrow.Author.Rules.{rules}
use Rattle.trace.proofs.lines.draw_run.Goals as goal

pub returns-then-is_done : goal.returns-then-is_done
unfolding run_reply run_dots
returns-then-is_done c =
    let r = c.first_of-r in
    let e = r.ensures ∙ ap (first_of _) c.state_reply-state.ensures in
    (e, drawn _ _ _ _ _ e (sym c.is_done.ensures ∙ c.if-is_done.true) c.draw_parts.ensures)

pub returns-else-is_done : goal.returns-else-is_done
unfolding run_reply run_dots
returns-else-is_done c =
    let r = c.first_of-r in
    let e = r.ensures ∙ ap (first_of _) c.state_reply-state.ensures in
    (e, left _ _ _ _ e (sym c.is_done.ensures ∙ c.if-is_done.false))
