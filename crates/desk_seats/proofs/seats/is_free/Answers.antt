-- The bytes so far are tested.
use native.Mathlib.Omega.{arith}
use mathlib.Core.Path.{◌≡◌, sym, ap, ◌∙◌}
use lib.Dec.{eqb}
use lib.ListN.{get_or}
use Rattle.lists.specs.Search.{all}
use Rattle.desk_seats.specs.Seats.{seat_length, is_free}
use Rattle.lists.proofs.Loops.{all_none, whole-length, whole-next}
use Rattle.desk_seats.proofs.seats.is_free.Goals as goal

pub slice_bounds-byte-items-end : goal.slice_bounds-byte-items-end
slice_bounds-byte-items-end c = sym (whole-length 2155 c.args.seat.now c.requires)

pub loop-byte-init : goal.loop-byte-init
loop-byte-init c = all_none _

pub loop-byte-preserved : goal.loop-byte-preserved
loop-byte-preserved c = whole-next 2155 c.args.seat.now c.requires (λ b. eqb b 0) c.loop-byte.byte-index _ c.loop-byte.invariant

pub returns : goal.returns
unfolding is_free
returns c =
    let s = c.args.seat.now in
    let e : c.loop-byte.byte-index ≡ seat_length = omega (arith, whole-length 2155 s c.requires) in
    c.loop-byte.invariant ∙ ap (all (λ j. eqb (get_or s j 0) 0)) e
