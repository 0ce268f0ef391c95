-- `narephon_check_record` takes the judgement apart; its place is one of the record's, so it fits.
use Prim.Native.Nat.{◌≤◌}
use native.Mathlib.Omega.{arith}
use mathlib.Core.Path.{ap, ◌∙◌}
use lib.ListN.{length}
use Rattle.reply.specs.Reply.{reply_number}
use Rattle.record_layout.specs.declared.Judgement.{Judgement}
use Rattle.record_layout.specs.Record.{version_of, judged_record}
use Rattle.record_layout.proofs.Told.{place-small}
use borrow.Author.Rules.{rules}
use Rattle.capi.proofs.readings.narephon_check_record.Goals as goal

pub overflow_cast-place : goal.overflow_cast-place
unfolding judged_record
overflow_cast-place c =
    let b = c.args.bytes.now in
    let j = c.judge_record-judgement in
    let h : j.result.place ≤ 2152 = rw j.ensures (place-small (version_of (length b)) b) in
    omega arith
