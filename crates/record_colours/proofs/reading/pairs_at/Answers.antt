-- A turn reads one more pair from two bytes.
use native.Mathlib.Omega.{arith}
use Prim.Native.Nat.{ℕ, ◌+◌, ◌*◌, ◌<◌}
use mathlib.Core.Path.{◌≡◌, refl}
use lib.ListN.{get_or, length-set}
use Rattle.record_colours.proofs.LowFirst.{pairs-more}
use Rattle.record_colours.proofs.reading.pairs_at.Goals as goal

pub loop-i-preserved : goal.loop-i-preserved
loop-i-preserved c =
    let b = c.args.b.now in
    let h = c.loop-i in
    let o : ℕ = c.args.at + 2 * h.i in
    let hx : get_or b o 0 < 256 = omega (arith, c.type_inv.b o) in
    let hy : get_or b (o + 1) 0 < 256 = omega (arith, c.type_inv.b (o + 1)) in
    let e : c.from_le_bytes.result ≡ get_or b o 0 + get_or b (o + 1) 0 * 256 = omega (arith, c.from_le_bytes.ensures) in
    (simp length-set h.invariant.0, rw e (pairs-more b h.pairs c.args.at h.i (get_or b o 0) (get_or b (o + 1) 0) (omega arith) refl refl hx hy h.invariant.1))
