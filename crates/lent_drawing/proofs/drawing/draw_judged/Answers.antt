-- What the state alone is refused for is the answer; a line that is not refused is drawn.
use mathlib.Core.Path.{refl, sym, ◌∙◌}
use Rattle.line_replies.proofs.Exits.{drawn, left}
use borrow.Author.Rules.{rules}
use Rattle.lent_drawing.proofs.drawing.draw_judged.Goals as goal

pub returns-then-is_done : goal.returns-then-is_done
returns-then-is_done c =
    let r = c.state_judged-r in
    (r.ensures, drawn _ _ _ _ _ refl (sym c.is_done.ensures ∙ c.if-is_done.true) c.draw_line.ensures)

pub returns-else-is_done : goal.returns-else-is_done
returns-else-is_done c =
    let r = c.state_judged-r in
    (r.ensures, left _ _ _ _ refl (sym c.is_done.ensures ∙ c.if-is_done.false))
