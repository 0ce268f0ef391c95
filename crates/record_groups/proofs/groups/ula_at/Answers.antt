-- The ULA's registers of the state are read at their places in the version.
use Rattle.record_layout.proofs.Read.{ula-read}
use borrow.Author.Rules.{rules}
use Rattle.record_groups.proofs.groups.ula_at.Goals as goal

pub returns : goal.returns
returns c = ula-read _ _ _ c.added-n.ensures.0
