-- The loop of `after`: so many writes are done.
use Rattle.sample_refusals.proofs.Writes.{write-more}
use Rattle.sample_refusals.specs.States.{after_writes}
use borrow.Author.Rules.{rules}
use native.Mathlib.Omega.{arith}
use mathlib.Core.Path.{◌≡◌, sym}
use Prim.Native.Nat.{◌/◌}
use lib.ListN.{length}
use Rattle.sample_refusals.proofs.states.after.Goals as goal

pub loop-i-init : goal.loop-i-init
unfolding after_writes
loop-i-init c = (search rules, c.plain-s.ensures)

pub loop-i-preserved : goal.loop-i-preserved
loop-i-preserved c =
    let h = c.loop-i in
    (search rules, rw (c.enter-s.ensures, h.invariant.1) (sym (write-more _ _)))

pub returns : goal.returns
returns c =
    let h = c.loop-i in
    let e : h.i ≡ length c.args.writes.now / 3 = omega arith in
    rw e at h.invariant.1
