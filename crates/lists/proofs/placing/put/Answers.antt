-- The first i bytes are placed; a turn places one more.
use Rattle.std.proofs.Common.{ap, ◌∙◌, arith, rules}
use lib.Seq.{take_all}
use Rattle.lists.specs.Placed.{placed}
use Rattle.lists.proofs.Placed.{placed-none, placed-more}
use Rattle.lists.proofs.placing.put.Goals as goal

pub loop-i-init : goal.loop-i-init
loop-i-init c = placed-none _ _

pub loop-i-preserved : goal.loop-i-preserved
loop-i-preserved c =
    let a = c.args in
    let h = c.loop-i in
    rw h.invariant (placed-more a.src.now h.i (omega arith) a.target.now a.at (omega arith))

pub returns : goal.returns
returns c = c.loop-i.invariant ∙ ap (placed _ _) (take_all _ _ (omega arith))
