-- What the calls place, one after the other, are the bytes of the record from its tables on.
use Rattle.record_layout.proofs.Arguments.{argument-typed}
use Rattle.record_parts.proofs.Made.{tables-made}
use borrow.Author.Rules.{rules}
use Rattle.record_parts.proofs.writing.put_tables.Goals as goal

pub returns : goal.returns
returns c =
    tables-made c.args.s (argument-typed c.args.s c.well_formed.0) _ c.added-n.ensures.0 _ _ _ _ _ _ c.requires
    c.put.ensures c.put_colours.ensures c.put_colours-2.ensures c.put_colours-3.ensures c.put_colours-4.ensures
