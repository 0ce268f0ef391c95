-- The frame is read at its place in the version.
use Rattle.record_layout.proofs.Read.{frame-read}
use borrow.Author.Rules.{rules}
use Rattle.record_groups.proofs.groups.frame_at.Goals as goal

pub returns : goal.returns
returns c = frame-read _ _ _ c.added.ensures.0
