-- `entry_at` makes its record of the two bytes.
use Rattle.tilemap_entries.specs.Entries.{entry_at}
use borrow.Author.Rules.{rules}
use Rattle.tilemap_entries.proofs.entries.entry_at.Goals as goal

pub returns : goal.returns
unfolding entry_at
returns c = (cc, search rules)
