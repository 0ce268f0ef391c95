-- `judge` chooses by two tests.
use Rattle.pack_rule.specs.Answer.{judged}
use native.Mathlib.Omega.{arith}
use Rattle.packer.proofs.judge.Goals as goal

pub returns-then-allowed-offset : goal.returns-then-allowed-offset
unfolding judged
returns-then-allowed-offset c = rw (c.if-pic-map.true, c.if-allowed-offset.true)

pub returns-else-allowed-offset : goal.returns-else-allowed-offset
unfolding judged
returns-else-allowed-offset c = (rw (c.if-pic-map.true, c.if-allowed-offset.false), λ e. omega (arith, e))

pub returns-else-pic-map : goal.returns-else-pic-map
unfolding judged
returns-else-pic-map c = (rw c.if-pic-map.false, λ e. omega (arith, e))
