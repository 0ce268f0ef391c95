-- `definition_byte` chooses by the address.
use borrow.Author.Tests.{lt-ltb, le-ltb}
use Rattle.example_banks.specs.Banks.{definition_byte}
use borrow.Author.Rules.{rules}
use Rattle.example_banks.proofs.banks.definition_byte.Goals as goal

pub returns-then-at-lt32 : goal.returns-then-at-lt32
unfolding definition_byte
returns-then-at-lt32 c = rw (lt-ltb _ _ c.if-at-lt32.true)

pub returns-then-at-lt64 : goal.returns-then-at-lt64
unfolding definition_byte
returns-then-at-lt64 c = rw (le-ltb _ _ c.if-at-lt32.false, lt-ltb _ _ c.if-at-lt64.true)

pub returns-else-at-lt64 : goal.returns-else-at-lt64
unfolding definition_byte
returns-else-at-lt64 c = rw (le-ltb _ _ c.if-at-lt32.false, le-ltb _ _ c.if-at-lt64.false)
