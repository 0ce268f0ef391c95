-- `write_numbered` takes a state apart, lends its palettes and puts it together again.
use mathlib.Core.Path.{◌∙◌}
use borrow.Author.Rules.{rules}
use Rattle.register_tables.proofs.write_numbered.Goals as goal

pub returns : goal.returns
returns c = rw (c.write_apart-w.ensures, c.registers_of-g.ensures, c.palettes_of-p.ensures) at c.answer_with.ensures
