-- What the calls place, one after the other, are the bytes of the record up to the tables.
use Rattle.record_layout.proofs.Arguments.{argument-typed}
use Rattle.record_parts.proofs.Made.{registers-made}
use borrow.Author.Rules.{rules}
use Rattle.record_parts.proofs.writing.put_registers.Goals as goal

pub returns : goal.returns
returns c =
    registers-made c.args.s (argument-typed c.args.s c.well_formed.0) _ c.added-n.ensures.0 _ _ _ _ _ _ _ c.requires
    c.before_clips-first.ensures c.after_clips-last.ensures c.put.ensures c.put-2.ensures c.put-3.ensures c.put-4.ensures
