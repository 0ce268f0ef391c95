-- The first i bytes are 0.
use Rattle.lists.proofs.Tab.{tab-none, tab-step, tab-done}
use Rattle.std.proofs.Common.{◌≡◌, length, refl, arith, rules}
use Rattle.lists.proofs.placing.zero.Goals as goal

pub loop-i-init : goal.loop-i-init
loop-i-init c = tab-none _

pub loop-i-preserved : goal.loop-i-preserved
loop-i-preserved c = tab-step _ _ _ _ (omega arith) c.loop-i.invariant refl

pub returns : goal.returns
returns c =
    let l = c.loop-i in
    let n = length c.args.out.now in
    let e : l.i ≡ n = omega arith in
    tab-done _ _ n (search rules) (rw e at l.invariant)
