-- A line that is opaque is finished as it stands.
use mathlib.Core.Path.{sym, ◌∙◌}
use Rattle.line_dots.proofs.Opaque.{opaque-finished}
use borrow.Author.Rules.{rules}
use Rattle.line_dots.proofs.dots.finish_line.Goals as goal

pub returns-then-is_opaque : goal.returns-then-is_opaque
returns-then-is_opaque c = opaque-finished _ _ c.before.requires (sym c.is_opaque.ensures ∙ c.if-is_opaque.true)
