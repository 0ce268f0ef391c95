-- `tile_byte` chooses by the address.
use borrow.Author.Tests.{lt-ltb, le-ltb}
use Rattle.example_banks.specs.Banks.{tile_byte}
use borrow.Author.Rules.{rules}
use Rattle.example_banks.proofs.banks.tile_byte.Goals as goal

pub returns-then-at-lt2560 : goal.returns-then-at-lt2560
unfolding tile_byte
returns-then-at-lt2560 c = rw (lt-ltb _ _ c.if-at-lt2560.true, c.map_byte.ensures)

pub returns-then-at-lt4096 : goal.returns-then-at-lt4096
unfolding tile_byte
returns-then-at-lt4096 c = rw (le-ltb _ _ c.if-at-lt2560.false, lt-ltb _ _ c.if-at-lt4096.true)

pub returns-else-at-lt4096 : goal.returns-else-at-lt4096
unfolding tile_byte
returns-else-at-lt4096 c = rw (le-ltb _ _ c.if-at-lt2560.false, le-ltb _ _ c.if-at-lt4096.false, c.definition_byte.ensures)
