-- An empty slot: no listed cell makes the cell. A listed cell that a slot holds is the only one, where it makes the cell. Else
-- `find_match` answers.
use Rattle.pack_search.proofs.Listing.{made-by-none, found-by}
use native.Mathlib.Omega.{arith}
use Prim.Native.Nat.{◌%◌}
use borrow.Author.Rules.{rules}
use Rattle.pack_search.proofs.search.Table.locate.Goals as goal

pub returns-then-latest-eq0 : goal.returns-then-latest-eq0
returns-then-latest-eq0 c =
    let a = c.args in
    let t = a.self.now in
    made-by-none t.pixels t.slots t.count a.cell.now c.requires.slotted c.mark-theirs.result c.mark-theirs.ensures (omega (arith, c.from-latest.ensures, c.if-latest-eq0.true))

pub returns-in-Some : goal.returns-in-Some
returns-in-Some c = let t = c.args.self.now in found-by t.pixels t.slots t.count c.args.cell.now c.requires.slotted _ c.in-Some.ensures.1

pub returns-in-Some-slot_match : goal.returns-in-Some-slot_match
returns-in-Some-slot_match c = let t = c.args.self.now in found-by t.pixels t.slots t.count c.args.cell.now c.requires.slotted _ c.in-Some-slot_match.ensures.1
