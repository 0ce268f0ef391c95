-- The turns of the state are read at their places in the version.
use Rattle.record_layout.proofs.Read.{turns-read}
use borrow.Author.Rules.{rules}
use Rattle.record_groups.proofs.groups.turns_at.Goals as goal

pub returns : goal.returns
returns c = turns-read _ _ _ c.added-n.ensures.0
