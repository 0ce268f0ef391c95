-- Three bytes stored, and the record of the reset state in the rest (Taken).
use mathlib.Core.Path.{ap, ◌∙◌}
use native.Mathlib.Omega.{arith}
use lib.ListN.{length-set}
use Rattle.record_layout.specs.Record.{record_of}
use Rattle.desk_seats.proofs.Taken.{new-seat, record-long}
use borrow.Author.Rules.{rules}
use Rattle.desk_seats.proofs.taking.take_seat.Goals as goal

pub slice_bounds-put_record-count : goal.slice_bounds-put_record-count
slice_bounds-put_record-count c = simp length-set (omega arith)

pub slice_bounds-put_record-start : goal.slice_bounds-put_record-start
slice_bounds-put_record-start c = simp length-set (omega arith)

pub put_record-requires : goal.put_record-requires
put_record-requires c = let a = c.args in record-long a.seat.now a.member c.requires

pub returns : goal.returns
returns c = let a = c.args in new-seat a.seat.now a.member _ _ c.requires (c.put_record.ensures ∙ ap record_of c.reset.ensures)
