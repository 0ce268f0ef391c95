-- `write_port` goes by what `lawful` answers.
use Rattle.registers.specs.Registers.{write_port}
use mathlib.Core.Path.{sym, ◌∙◌}
use borrow.Author.Rules.{rules}
use Rattle.registers.proofs.port.write_port.Goals as goal

pub returns-then-lawful : goal.returns-then-lawful
unfolding write_port
returns-then-lawful c = rw (sym c.lawful.ensures ∙ c.if-lawful.true) c.write_at.ensures

pub returns-else-lawful : goal.returns-else-lawful
unfolding write_port
returns-else-lawful c = rw (sym c.lawful.ensures ∙ c.if-lawful.false)
