-- One of two replies, as the length says.
use borrow.Author.Tests.{eq-eqb, ne_eqb}
use Rattle.reply.proofs.lengths.length_reply.Goals as goal

pub returns-then-length-wanted : goal.returns-then-length-wanted
returns-then-length-wanted c = rw (eq-eqb _ _ c.if-length-wanted.true)

pub returns-else-length-wanted : goal.returns-else-length-wanted
returns-else-length-wanted c = rw (ne_eqb _ _ c.if-length-wanted.false)
