-- `write_register` goes by what `lawful` answers.
use Rattle.registers.specs.Registers.{write_register}
use mathlib.Core.Path.{sym, ◌∙◌}
use borrow.Author.Rules.{rules}
use Rattle.registers.proofs.write.write_register.Goals as goal

pub returns-then-lawful : goal.returns-then-lawful
unfolding write_register
returns-then-lawful c = rw (sym c.lawful.ensures ∙ c.if-lawful.true) c.write_numbered.ensures

pub returns-else-lawful : goal.returns-else-lawful
unfolding write_register
returns-else-lawful c = rw (sym c.lawful.ensures ∙ c.if-lawful.false)
