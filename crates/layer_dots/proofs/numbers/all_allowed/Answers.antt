-- What is gathered of the first k places is 0 where all their numbers are allowed.
use mathlib.Core.Path.{◌≡◌, refl}
use native.Mathlib.Omega.{arith}
use Rattle.lists.specs.Search.{all}
use Rattle.layer_dots.proofs.Allowed.{allowed-more}
use borrow.Author.Rules.{rules}
use Rattle.layer_dots.proofs.numbers.all_allowed.Goals as goal

pub loop-k-init : goal.loop-k-init
unfolding all
loop-k-init c = (search rules, refl)

pub loop-k-preserved : goal.loop-k-preserved
loop-k-preserved c =
    let h = c.loop-k in
    let s = c.args in
    (search rules, allowed-more s.layer2.now s.sprites.now h.k h.excess _ _ h.invariant.1 c.layer2_excess.ensures c.above_512.ensures.0)

pub returns : goal.returns
returns c =
    let e : c.loop-k.k ≡ 640 = omega arith in
    rw e at c.loop-k.invariant.1
