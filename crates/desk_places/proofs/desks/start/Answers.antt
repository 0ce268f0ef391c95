-- The length alone decides (Started).
use Rattle.desk_places.proofs.Started.{start-done, start-refused}
use borrow.Author.Rules.{rules}
use Rattle.desk_places.proofs.desks.start.Goals as goal

pub returns-then-desk : goal.returns-then-desk
returns-then-desk c = start-done c.args.desk.now _ c.if-desk.true c.zero.ensures

pub returns-else-desk : goal.returns-else-desk
returns-else-desk c = start-refused c.args.desk.now c.if-desk.false
