-- The tilemap's registers of the state are read at their places, which no version moves.
use Rattle.record_layout.proofs.Read.{tiles-read}
use borrow.Author.Rules.{rules}
use Rattle.record_groups.proofs.groups.tiles_at.Goals as goal

pub returns : goal.returns
returns c = λ v. tiles-read _ v
