-- The target is asked first (Exits).
use mathlib.Core.Path.{sym, ◌∙◌}
use Rattle.record_moves.proofs.Exits.{target-done, target-refused}
use borrow.Author.Rules.{rules}
use Rattle.record_moves.proofs.moves.target_first.Goals as goal

pub returns-then-is_done : goal.returns-then-is_done
returns-then-is_done c =
    let a = c.args in
    target-done a.long a.stored (sym c.is_done.ensures ∙ c.if-is_done.true)

pub returns-else-is_done : goal.returns-else-is_done
returns-else-is_done c =
    let a = c.args in
    target-refused a.long a.stored (sym c.is_done.ensures ∙ c.if-is_done.false)
