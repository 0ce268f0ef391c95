-- The row of its mode within the clip, or nothing.
use Rattle.ula_display.proofs.Shows.{shows-clipped, shows_nothing}
use Rattle.lists.specs.Tab.{tab}
use mathlib.Core.Path.{ap, ◌∙◌}
use Prim.Native.Nat.{ℕ}
use borrow.Author.Rules.{rules}
use Rattle.ula_display.proofs.rows.display_row.Goals as goal

pub returns-then-p : goal.returns-then-p
returns-then-p c = c.clip_dots.ensures ∙ ap (tab _) (search rules) ∙ shows-clipped _ _ _ _ _ _ c.if-p.true c.mode_row.ensures

pub returns-else-p : goal.returns-else-p
returns-else-p c = c.paint.ensures ∙ ap (λ (n : ℕ). tab (λ (k : ℕ). 512) n) (search rules) ∙ shows_nothing _ _ _ _ _ c.if-p.false
