-- The bank filled, then the record of the state that shows the file.
use native.Mathlib.Omega.{arith}
use mathlib.Core.Path.{ap, ◌∙◌}
use Rattle.record_layout.specs.Record.{record_of}
use Rattle.scr_forms.proofs.Shapes.{enough}
use borrow.Author.Rules.{rules}
use Rattle.lent_scr.proofs.reading.store_screen.Goals as goal

pub fill-requires : goal.fill-requires
fill-requires c = (c.requires.1, omega (arith, enough c.args.file.now c.args.found c.requires.2 c.requires.3))

pub returns : goal.returns
returns c = (c.put_record.ensures ∙ ap record_of c.state_read-t.ensures, c.fill.ensures)
