-- The dots so far are not transparent.
use mathlib.Core.Path.{◌≡◌, sym, ap, ◌∙◌}
use mathlib.Core.Bool.{not}
use lib.ListN.{get_or}
use lib.Dec.{eqb}
use native.Mathlib.Omega.{arith}
use Rattle.lists.specs.Search.{all}
use Rattle.lists.proofs.Loops.{all_none, whole-length, whole-next}
use Rattle.line_dots.specs.Opaque.{opaque}
use Rattle.line_dots.proofs.dots.is_opaque.Goals as goal

pub slice_bounds-dot-items-end : goal.slice_bounds-dot-items-end
slice_bounds-dot-items-end c = sym (whole-length 640 c.args.out.now c.requires)

pub offset_bounds-dot-items-dot-index : goal.offset_bounds-dot-items-dot-index
offset_bounds-dot-items-dot-index c = omega (arith, c.loop-dot-test.true, whole-length 640 c.args.out.now c.requires)

pub loop-dot-init : goal.loop-dot-init
loop-dot-init c = all_none _

pub loop-dot-preserved : goal.loop-dot-preserved
loop-dot-preserved c = whole-next 640 c.args.out.now c.requires (λ v. not (eqb v 512)) c.loop-dot.dot-index _ c.loop-dot.invariant

pub returns : goal.returns
unfolding opaque
returns c =
    let row = c.args.out.now in
    let e : c.loop-dot.dot-index ≡ 640 = omega (arith, whole-length 640 row c.requires) in
    c.loop-dot.invariant ∙ ap (all (λ j. not (eqb (get_or row j 0) 512))) e
