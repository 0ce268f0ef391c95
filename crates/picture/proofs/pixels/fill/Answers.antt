-- The loop of `fill`: the bytes so far are the first of the line's pixels.
use Rattle.std.proofs.Common.{◌≡◌, ◌∙◌, length, arith, rules}
use Rattle.lists.proofs.Tab.{tab-none, tab-step, tab-done}
use Rattle.picture.specs.Pixels.{pixel_byte}
use Rattle.picture.proofs.pixels.fill.Goals as goal

pub loop-k-init : goal.loop-k-init
loop-k-init c = tab-none _

pub loop-k-preserved : goal.loop-k-preserved
loop-k-preserved c = let h = c.loop-k in tab-step _ _ _ _ (omega arith) h.invariant (cc)

pub returns : goal.returns
returns c = let h = c.loop-k in let e : h.k ≡ 1920 = omega arith in tab-done _ _ 1920 (omega arith) (rw e at h.invariant)
