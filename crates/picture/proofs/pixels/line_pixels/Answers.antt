-- `line_pixels`: each exit by its law of `Answers`.
use mathlib.Core.Path.{sym, ◌∙◌}
use Rattle.picture.proofs.Answers.{wrong-dots, wrong-buffer, no-colour, filled}
use borrow.Author.Rules.{rules}
use Rattle.picture.proofs.pixels.line_pixels.Goals as goal

pub returns-then-dots-ne640 : goal.returns-then-dots-ne640
returns-then-dots-ne640 c = wrong-dots _ _ (search rules)

pub returns-then-out-ne1920 : goal.returns-then-out-ne1920
returns-then-out-ne1920 c = wrong-buffer _ _ (search rules) (search rules)

pub returns-then-all_colours : goal.returns-then-all_colours
returns-then-all_colours c = filled _ _ (search rules) (search rules) _ (sym c.all_colours.ensures ∙ c.if-all_colours.true) c.fill.ensures

pub returns-else-all_colours : goal.returns-else-all_colours
returns-else-all_colours c = no-colour _ _ (search rules) (search rules) (sym c.all_colours.ensures ∙ c.if-all_colours.false)
