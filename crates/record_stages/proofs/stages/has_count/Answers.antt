-- Fewer than two bytes state no number; else the number is the one of the first two bytes.
use native.Mathlib.Omega.{arith}
use borrow.Author.Tests.{ne_eqb}
use Prim.Native.Nat.{◌+◌}
use lib.ListN.{length}
use Rattle.record_layout.specs.Fields.{pair, field_at}
use Rattle.record_layout.specs.Places.{count_place}
use Rattle.record_layout.specs.Record.{counted}
use borrow.Author.Rules.{rules}
use Rattle.record_stages.proofs.stages.has_count.Goals as goal

pub returns-then-b-lt2 : goal.returns-then-b-lt2
unfolding counted
returns-then-b-lt2 c = let b = c.args.b.now in rw (ne_eqb (length b) (2 + field_at pair b count_place) (λ e. omega arith))

pub returns : goal.returns
unfolding counted
returns c = rw (c.from.ensures, c.from-2.ensures, c.following_of-first.ensures, c.following_of-second.ensures)
