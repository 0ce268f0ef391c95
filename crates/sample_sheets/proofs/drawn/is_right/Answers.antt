-- `is_right` compares the tilemap's index with the half of the picture's byte.
use Rattle.sample_sheets.specs.Counted.{right_at}
use Rattle.pack_classes.specs.Picture.{pixel_of}
use Rattle.sample_sheets.proofs.drawn.is_right.Goals as goal

pub returns : goal.returns
unfolding right_at pixel_of
returns c = cc
