-- The two ends are painted over; what is left of the row is the clip.
use Prim.Native.Nat.{◌-◌}
use mathlib.Core.Path.{◌≡◌, ◌∙◌}
use lib.ListN.{length, length-take, length-drop}
use native.Mathlib.Omega.{arith}
use Rattle.surface_rows.proofs.Clips.{clip-ends}
use borrow.Author.Rules.{rules}
use Rattle.surface_rows.proofs.rows.clip_dots.Goals as goal

pub returns : goal.returns
returns c =
    let first = c.first_dot-first in
    let past = c.past_dot-past in
    let xs = c.args.out.now in
    let z : first.result - 0 ≡ first.result = omega arith in
    clip-ends xs c.args.left c.args.right _ _ _ _ (first.result - 0) past.result (length xs - past.result) (z ∙ first.ensures.0) (omega arith) past.ensures.0 (omega arith) c.paint.ensures (simp (length-take, length-drop) (omega arith)) c.paint-2.ensures (simp (length-take, length-drop) (omega arith))
