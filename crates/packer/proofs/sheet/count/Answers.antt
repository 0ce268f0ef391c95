-- `count` keeps the number that `pack_cells` answers.
use Rattle.packer.proofs.Answers.{counted-of}
use Rattle.packer.proofs.sheet.count.Goals as goal

pub returns : goal.returns
returns c = counted-of _ _ _ _ _ _ c.pack_cells.ensures
