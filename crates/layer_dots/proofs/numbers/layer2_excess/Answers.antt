-- What is above 512 twice, with bit 9 the other way between.
use Rattle.layer_dots.proofs.Allowed.{layer2-excess}
use Rattle.layer_dots.proofs.numbers.layer2_excess.Goals as goal

pub returns : goal.returns
returns c = layer2-excess _ _ _ _ c.above_512.ensures.0 c.toggle.ensures c.above_512-2.ensures.0
