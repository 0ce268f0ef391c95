-- The head of each version, by computation.
use mathlib.Core.Path.{sym, ap}
use Rattle.record_layout.specs.Record.{head_of}
use borrow.Author.Rules.{rules}
use Rattle.record_places.proofs.versions.head_of.Goals as goal

pub returns-in-Version1 : goal.returns-in-Version1
returns-in-Version1 c = ap head_of (sym c.in-Version1.is)

pub returns-in-Version2 : goal.returns-in-Version2
returns-in-Version2 c = ap head_of (sym c.in-Version2.is)
