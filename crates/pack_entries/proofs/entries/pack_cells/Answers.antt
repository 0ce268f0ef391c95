-- The loop of `pack_cells`: the progress of the cells packed so far.
use Rattle.pack_rule.proofs.Greedy.{grows}
use Rattle.pack_rule.specs.Greedy.{def_cells}
use Rattle.pack_entries.proofs.Step.{start}
use Rattle.pack_entries.specs.Bounds.{PackedSoFar}
use lib.ListN.{length}
use Prim.Native.Nat.{◌+◌, ◌≤◌, ◌<◌}
use borrow.Author.Rules.{rules}
use native.Mathlib.Omega.{arith}
use mathlib.Core.Path.{◌≡◌, subst}
use Rattle.pack_entries.proofs.entries.pack_cells.Goals as goal

pub loop-c-init : goal.loop-c-init
loop-c-init c =
    let p = c.requires in
    let e = c.new-table.ensures in
    (omega arith, omega (arith, e.0), start _ _ _ _ _ e.0 e.1 p.3 p.4)

pub returns-in_err-pack_cell : goal.returns-in_err-pack_cell
returns-in_err-pack_cell c =
    let a = c.args in
    let l : a.allowed < length (def_cells a.pic.now (c.loop-c.c + 1)) = rw c.in_err-pack_cell.was at c.pack_cell.ensures in
    rw c.from_residual.ensures (omega (arith, l, grows a.pic.now (c.loop-c.c + 1) 1280 (omega arith)))

pub returns : goal.returns
returns c =
    let l = c.loop-c in
    let a = c.args in
    let e : l.c ≡ 1280 = omega arith in
    rw c.len.ensures (l.invariant.1, subst (PackedSoFar a.pic.now a.offset l.cells l.map l.table.count) e l.invariant.2.packed)
