-- The palette goes by one bit of $6B.
use mathlib.Core.Path.{sym, ◌∙◌}
use borrow.Author.Rules.{rules}
use Rattle.line.proofs.lines.tile_palette.Goals as goal

pub returns-then-tile_second_shown : goal.returns-then-tile_second_shown
returns-then-tile_second_shown c = rw (sym c.tile_second_shown.ensures ∙ c.if-tile_second_shown.true)

pub returns-else-tile_second_shown : goal.returns-else-tile_second_shown
returns-else-tile_second_shown c = rw (sym c.tile_second_shown.ensures ∙ c.if-tile_second_shown.false)
