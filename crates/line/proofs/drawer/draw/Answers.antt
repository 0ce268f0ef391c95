-- A drawing that nothing refuses has met every bound; any other leaves the line.
use mathlib.Core.Path.{sym, ◌∙◌}
use Rattle.line_replies.proofs.Exits.{judged, drawn, left}
use Rattle.line.proofs.drawer.draw.Goals as goal

pub draw_line-requires : goal.draw_line-requires
draw_line-requires c =
    let j = judged _ _ _ _ _ _ c.draw_reply-r.ensures (sym c.is_done.ensures ∙ c.if-is_done.true) in (j.lawful, j.line, j.ula, j.tile, j.out)

pub returns-then-is_done : goal.returns-then-is_done
returns-then-is_done c =
    (c.draw_reply-r.ensures, drawn _ _ _ _ _ c.draw_reply-r.ensures (sym c.is_done.ensures ∙ c.if-is_done.true) c.draw_line.ensures)

pub returns-else-is_done : goal.returns-else-is_done
returns-else-is_done c = (c.draw_reply-r.ensures, left _ _ _ _ c.draw_reply-r.ensures (sym c.is_done.ensures ∙ c.if-is_done.false))
