-- The bytes of the record up to the clips: its head, as the callee gives it, and one byte each.
use Rattle.record_layout.specs.Record.{record_of}
use borrow.Author.Rules.{rules}
use Rattle.record_bytes.proofs.registers.before_clips.Goals as goal

pub returns : goal.returns
unfolding record_of
returns c = rw c.head_of-head.ensures
