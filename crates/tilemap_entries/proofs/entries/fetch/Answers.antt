-- `fetch` reads one byte of the bank.
use Rattle.tilemap_entries.specs.Entries.{fetched}
use borrow.Author.Rules.{rules}
use Rattle.tilemap_entries.proofs.entries.fetch.Goals as goal

pub returns : goal.returns
unfolding fetched
returns c = (cc, search rules)
