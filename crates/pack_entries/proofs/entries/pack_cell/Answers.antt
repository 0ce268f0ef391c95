-- Each way out of `pack_cell` is a step of the packing.
use Rattle.pack_entries.proofs.Step.{step-old, step-new, step-too-many}
use native.Mathlib.Numerals.{add-one}
use native.Mathlib.Omega.{arith}
use mathlib.Core.Path.{◌≡◌, refl, ap}
use borrow.Author.Rules.{rules}
use Rattle.pack_entries.proofs.entries.pack_cell.Goals as goal

pub returns-in-Some : goal.returns-in-Some
returns-in-Some c =
    let a = c.args in
    let p = c.requires in
    let m = c.in-Some.ensures in (
      p.3,
      rw (add-one a.c)
          (step-old a.pic.now a.offset a.cells.now a.table.now a.map.now a.c _ _ p.5 c.unpack.ensures m.0 _ m.1.turn_is _ c.put_entry.ensures p.4 m.1.listed),
    )

pub returns-then-allowed-n : goal.returns-then-allowed-n
returns-then-allowed-n c =
    let a = c.args in
    let o = step-too-many a.pic.now a.offset a.cells.now a.table.now a.map.now a.c _ _ c.requires.5 c.unpack.ensures c.in_default.ensures refl in
    rw (add-one a.c) (omega (arith, c.if-allowed-n.true, c.len-n.ensures, o))

pub list-requires : goal.list-requires
list-requires c =
    let p = c.requires in
    (p.5.kept, omega (arith, p.2, c.if-allowed-n.false, c.len-n.ensures), c.in_default.ensures)

pub put_entry-requires-2 : goal.put_entry-requires-2
put_entry-requires-2 c =
    let p = c.requires in
    (p.5.packed.map-length, p.4, omega (arith, p.2, c.if-allowed-n.false), p.1, omega arith)

pub returns : goal.returns
returns c =
    let a = c.args in
    let p = c.requires in
    let e = c.list.ensures in (
      omega (arith, e.4, c.if-allowed-n.false, c.len-n.ensures),
      rw (add-one a.c)
          (step-new a.pic.now a.offset a.cells.now a.table.now a.map.now a.c _ _ p.5 c.unpack.ensures c.in_default.ensures _ c.len-n.ensures _ _ e.0 e.4 e.5
          c.put_entry-2.ensures p.4 refl (omega (arith, p.2, c.if-allowed-n.false, c.len-n.ensures))),
    )
