-- The loop of `halves`: the first 2 i pixels are right, two for each byte.
use Rattle.pack_cells.proofs.Bytes.{half-left, half-right}
use Rattle.lists.proofs.Tab.{tab-none, tab-two, tab-done}
use Rattle.lists.specs.Tab.{tab}
use Rattle.tilemap_turns.specs.Turns.{half_of}
use lib.ListN.{length, take, get_or, length-set}
use Prim.Native.Nat.{ℕ, ◌*◌, ◌/◌, ◌≤◌, ◌-◌}
use borrow.Author.Rules.{rules}
use native.Mathlib.Omega.{arith}
use mathlib.Core.Path.{◌≡◌, refl}
use Rattle.pack_cells.proofs.pixels.halves.Goals as goal

pub loop-i-init : goal.loop-i-init
loop-i-init c = (search rules, search rules, search rules, tab-none _)

pub bounds-out-i-in-loop-i : goal.bounds-out-i-in-loop-i
bounds-out-i-in-loop-i c = simp length-set (omega arith)

pub loop-i-preserved : goal.loop-i-preserved
loop-i-preserved c =
    let h = c.loop-i in
    let bs = c.args.bytes.now in (
      omega arith,
      refl,
      simp length-set h.invariant.2,
      tab-two _ _ _ _ _ (omega arith) h.invariant.3 (half-left bs h.i (omega (arith, c.type_inv.bytes h.i))) (half-right bs h.i),
    )

pub returns : goal.returns
returns c =
    let h = c.loop-i in
    let n = length c.args.bytes.now * 2 in
    let e : h.i * 2 ≡ n = omega arith in
    tab-done _ _ n h.invariant.2 (rw e at h.invariant.3)
