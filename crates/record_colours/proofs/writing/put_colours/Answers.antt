-- A turn places two bytes more.
use native.Mathlib.Omega.{arith}
use mathlib.Core.Path.{◌≡◌}
use Prim.Native.Nat.{◌+◌, ◌*◌, ◌<◌}
use lib.ListN.{length, take}
use Rattle.lists.proofs.Placed.{placed-none, placed-two}
use Rattle.record_layout.specs.Fields.{pair, row_bytes}
use Rattle.record_colours.proofs.Runs.{colours-more, colours-so-far}
use Rattle.record_colours.proofs.writing.put_colours.Goals as goal

pub loop-i-init : goal.loop-i-init
loop-i-init c = placed-none _ _

pub loop-i-preserved : goal.loop-i-preserved
loop-i-preserved c =
    let a = c.args in
    let h = c.loop-i in
    let more : h.i < length a.src.now = omega arith in
    let e : a.at + 2 * h.i ≡ a.at + length (row_bytes pair (take h.i a.src.now)) = omega (arith, colours-so-far a.src.now h.i more) in
    rw (h.invariant, colours-more a.src.now h.i more)
    (placed-two a.target.now a.at (row_bytes pair (take h.i a.src.now)) _ _ _ e (omega arith))
