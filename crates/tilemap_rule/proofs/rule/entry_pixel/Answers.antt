-- `entry_pixel` reads the pixel that the turn picks.
use Rattle.tilemap_rule.specs.Index.{entry_pixel}
use borrow.Author.Rules.{rules}
use Rattle.tilemap_rule.proofs.rule.entry_pixel.Goals as goal

pub returns : goal.returns
unfolding entry_pixel
returns c = (cc, search rules)
