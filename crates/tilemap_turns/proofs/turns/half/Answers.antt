-- `half` chooses by one test.
use Rattle.tilemap_turns.specs.Turns.{half_of}
use native.Mathlib.Omega.{arith}
use borrow.Author.Tests.{eq-eqb, ne_eqb}
use Rattle.tilemap_turns.proofs.turns.half.Goals as goal

pub returns-then-x-eq0 : goal.returns-then-x-eq0
unfolding half_of
returns-then-x-eq0 c = (rw (eq-eqb _ _ c.if-x-eq0.true), omega arith)

pub returns-else-x-eq0 : goal.returns-else-x-eq0
unfolding half_of
returns-else-x-eq0 c = (rw (ne_eqb _ _ c.if-x-eq0.false), omega arith)
