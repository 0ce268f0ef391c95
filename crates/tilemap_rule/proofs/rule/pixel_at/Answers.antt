-- `pixel_at` takes the half of the byte it fetches.
use Rattle.tilemap_rule.specs.Index.{pixel_at}
use borrow.Author.Rules.{rules}
use Rattle.tilemap_rule.proofs.rule.pixel_at.Goals as goal

pub returns : goal.returns
unfolding pixel_at
returns c = (cc, search rules)
