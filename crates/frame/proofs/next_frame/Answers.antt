-- `next_frame` hands back the advanced state where `lawful` says yes, and the state as it was where it says no.
use Rattle.frame.specs.Frame.{next_frame}
use Rattle.std.proofs.Common.{rules}
use Rattle.frame.proofs.next_frame.Goals as goal

pub returns-then-lawful : goal.returns-then-lawful
unfolding next_frame
returns-then-lawful c = rw (← c.lawful.ensures, c.if-lawful.true, c.advance-t.ensures)

pub returns-else-lawful : goal.returns-else-lawful
unfolding next_frame
returns-else-lawful c = rw (← c.lawful.ensures, c.if-lawful.false)
