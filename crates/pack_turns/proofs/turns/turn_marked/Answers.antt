-- Different marks: no turn makes the cell. Else `turn_for` answers.
use Rattle.pack_classes.proofs.Kept.{unmarked}
use mathlib.Core.Path.{sym, ◌∙◌}
use borrow.Author.Rules.{rules}
use Rattle.pack_turns.proofs.turns.turn_marked.Goals as goal

pub returns-then-ours-theirs : goal.returns-then-ours-theirs
returns-then-ours-theirs c = unmarked c.args.from.now c.args.cell.now (λ e. c.if-ours-theirs.true (c.requires.1 ∙ e ∙ sym c.requires.2))
