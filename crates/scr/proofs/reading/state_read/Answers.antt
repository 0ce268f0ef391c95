-- The port, the switch and the registers, each by its function.
use Rattle.scr_forms.proofs.Shapes.{enough}
use Rattle.scr.proofs.Read.{colours-fit, part-short, read-state}
use borrow.Author.Rules.{rules}
use Rattle.scr.proofs.reading.state_read.Goals as goal

pub port_in-port-requires : goal.port_in-port-requires
port_in-port-requires c = enough c.args.file.now c.args.found c.requires.0 c.requires.1

pub part-requires : goal.part-requires
part-requires c = colours-fit c.args.s c.args.file.now c.args.found c.requires.0 c.requires.1

pub with_screen-requires : goal.with_screen-requires
with_screen-requires c = part-short c.args.file.now _ c.args.found.colours c.part.ensures.0

pub returns : goal.returns
returns c =
    let p = c.port_in-port in
    read-state c.args.s c.args.file.now c.args.found c.requires.0 p.result _ _ (search (rules, c.well_formed.0.1.1.1.1.1.1.1.1.1.1.0)) p.ensures c.part.ensures.0 c.with_screen.ensures
