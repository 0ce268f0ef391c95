-- `index_at` follows its definition call by call.
use native.Mathlib.Omega.{arith}
use Rattle.tilemap_rule.specs.Index.{tile_index}
use borrow.Author.Rules.{rules}
use Rattle.tilemap_rule.proofs.rule.index_at.Goals as goal

pub returns : goal.returns
unfolding tile_index
returns c = (cc, omega arith)
