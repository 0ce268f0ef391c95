-- `channel_of` chooses by the place of the byte.
use borrow.Author.Tests.{eq-eqb, ne_eqb}
use Rattle.picture.specs.Pixels.{channel}
use borrow.Author.Rules.{rules}
use Rattle.picture.proofs.pixels.channel_of.Goals as goal

pub returns-then-i-eq0 : goal.returns-then-i-eq0
unfolding channel
returns-then-i-eq0 c = rw (eq-eqb _ _ c.if-i-eq0.true)

pub returns-then-i-eq1 : goal.returns-then-i-eq1
unfolding channel
returns-then-i-eq1 c = rw (ne_eqb _ _ c.if-i-eq0.false, eq-eqb _ _ c.if-i-eq1.true)

pub returns : goal.returns
unfolding channel
returns c = rw (ne_eqb _ _ c.if-i-eq0.false, ne_eqb _ _ c.if-i-eq1.false)
