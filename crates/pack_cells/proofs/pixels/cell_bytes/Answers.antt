-- The loop of `cell_bytes`: the first 4 y bytes are right, four for each line.
use Rattle.pack_cells.proofs.Bytes.{byte_at, four-more}
use Rattle.lists.proofs.Tab.{tab-none, tab-done}
use Rattle.lists.specs.Tab.{tab}
use Rattle.pack_classes.specs.Picture.{cell_byte}
use lib.ListN.{length, take, length-set}
use Prim.Native.Nat.{◌*◌, ◌≤◌, ◌-◌}
use borrow.Author.Rules.{rules}
use native.Mathlib.Omega.{arith}
use mathlib.Core.Path.{◌≡◌}
use Rattle.pack_cells.proofs.pixels.cell_bytes.Goals as goal

pub loop-y-init : goal.loop-y-init
loop-y-init c = (search rules, search rules, tab-none _)

pub bounds-out-o-in-loop-y : goal.bounds-out-o-in-loop-y
bounds-out-o-in-loop-y c = simp length-set (omega arith)

pub bounds-out-o-in-loop-y-2 : goal.bounds-out-o-in-loop-y-2
bounds-out-o-in-loop-y-2 c = simp length-set (omega arith)

pub bounds-out-o-in-loop-y-3 : goal.bounds-out-o-in-loop-y-3
bounds-out-o-in-loop-y-3 c = simp length-set (omega arith)

pub loop-y-preserved : goal.loop-y-preserved
loop-y-preserved c =
    let h = c.loop-y in
    let a = c.args in
    let at = byte_at a.pic.now a.c h.y in (
      omega arith,
      simp length-set h.invariant.1,
      four-more _ _ _ _ _ _ _ (omega arith) h.invariant.2 (at 0 _ _ (omega arith) (omega arith) (omega arith))
          (at 1 _ _ (omega arith) (omega arith) (omega arith)) (at 2 _ _ (omega arith) (omega arith) (omega arith))
          (at 3 _ _ (omega arith) (omega arith) (omega arith)),
    )

pub returns : goal.returns
returns c = let h = c.loop-y in let e : h.y * 4 ≡ 32 = omega arith in tab-done _ _ 32 h.invariant.1 (rw e at h.invariant.2)
