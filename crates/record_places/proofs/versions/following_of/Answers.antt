-- A record is two bytes longer than its number says.
use native.Mathlib.Omega.{arith}
use Rattle.record_layout.proofs.Whole.{whole_length}
use borrow.Author.Rules.{rules}
use Rattle.record_places.proofs.versions.following_of.Goals as goal

pub returns : goal.returns
returns c = omega (arith, c.length_of.ensures, whole_length c.args.v)
