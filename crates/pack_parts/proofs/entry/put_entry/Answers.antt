-- `put_entry` stores the two bytes.
use lib.ListN.{length-set}
use native.Mathlib.Omega.{arith}
use borrow.Author.Rules.{rules}
use Rattle.pack_parts.proofs.entry.put_entry.Goals as goal

pub bounds-map-c-2 : goal.bounds-map-c-2
bounds-map-c-2 c = simp length-set (omega arith)
