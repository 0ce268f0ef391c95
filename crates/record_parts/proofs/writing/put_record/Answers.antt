-- The two callees place the record whole.
use Rattle.record_layout.proofs.Arguments.{argument-typed}
use Rattle.record_parts.proofs.Made.{record-made}
use borrow.Author.Rules.{rules}
use Rattle.record_parts.proofs.writing.put_record.Goals as goal

pub returns : goal.returns
returns c =
    record-made c.args.s (argument-typed c.args.s c.well_formed.0) _ _ _ c.requires c.put_registers.ensures c.put_tables.ensures
