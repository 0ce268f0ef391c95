-- A turn exchanges the bytes of one more.
use Rattle.record_colours.proofs.LowFirst.{colour-of}
use Rattle.lists.proofs.Tab.{tab-none, tab-step}
use native.Mathlib.Omega.{arith}
use lib.Seq.{get_or-set_other}
use Prim.Native.Nat.{◌+◌, ◌*◌}
use Rattle.record_colours.proofs.reading.colours_at.Goals as goal

pub loop-colour-init : goal.loop-colour-init
loop-colour-init c = (tab-none _, λ j h l. c.pairs_at-colours.ensures j l)

pub loop-colour-preserved : goal.loop-colour-preserved
loop-colour-preserved c =
    let h = c.loop-colour in
    let s = c.args in (
      tab-step _ h.colour-items h.colour-index _ (omega arith) h.invariant.0 (colour-of s.b.now (s.at + 2 * h.colour-index) _ (h.invariant.1 h.colour-index (omega arith) (omega arith))),
      λ j g l. rw (get_or-set_other h.colour-items h.colour-index j _ 0 (λ e. omega arith)) (h.invariant.1 j (omega arith) l),
    )
