-- One mode after the other, the last first.
use Rattle.scr_forms.specs.Files.{shape_of}
use borrow.Author.Rules.{rules}
use Rattle.scr_forms.proofs.files.shape_of.Goals as goal

pub returns : goal.returns
unfolding shape_of
returns c = rw (c.shape_or.ensures, c.shape_or-high_colour.ensures, c.shape_or-hires.ensures)
