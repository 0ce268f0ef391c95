-- The rule of the table of screen values, once over the whole table: its 512 entries are computed to be the values of the rule,
-- and an entry of n values in a row is its value.
use Rattle.lists.proofs.Tab.{get_or-tab}
use Rattle.lists.specs.Tab.{tab}
use Rattle.colour.specs.Screen.{screen_of}
use borrow.Author.Rules.{rules}
use Rattle.colour.proofs.screen.entry.Goals as goal

pub returns : goal.returns
unfolding tab
returns c = get_or-tab screen_of 512 c.args.c (search rules)
