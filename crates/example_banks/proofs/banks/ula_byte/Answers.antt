-- `ula_byte` chooses by the address.
use borrow.Author.Tests.{lt-ltb, le-ltb}
use Rattle.example_banks.specs.Banks.{ula_byte}
use borrow.Author.Rules.{rules}
use Rattle.example_banks.proofs.banks.ula_byte.Goals as goal

pub returns-then-at-lt6144 : goal.returns-then-at-lt6144
unfolding ula_byte
returns-then-at-lt6144 c = rw (lt-ltb _ _ c.if-at-lt6144.true)

pub returns-then-at-lt6912 : goal.returns-then-at-lt6912
unfolding ula_byte
returns-then-at-lt6912 c = rw (le-ltb _ _ c.if-at-lt6144.false, lt-ltb _ _ c.if-at-lt6912.true)

pub returns : goal.returns
unfolding ula_byte
returns c = rw (le-ltb _ _ c.if-at-lt6144.false, le-ltb _ _ c.if-at-lt6912.false)
