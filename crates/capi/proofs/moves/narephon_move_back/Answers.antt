-- `narephon_move_back` takes the answer apart; its place is one of the record's, so it fits.
use Prim.Native.Nat.{◌≤◌}
use native.Mathlib.Omega.{arith}
use mathlib.Core.Path.{ap, ◌∙◌}
use lib.ListN.{length}
use Rattle.reply.specs.Reply.{reply_number}
use Rattle.record_layout.specs.declared.Judgement.{Judgement}
use Rattle.record_layout.specs.declared.Version.TheVariants.{Version2}
use Rattle.record_moves.proofs.Exits.{move-place-small}
use borrow.Author.Rules.{rules}
use Rattle.capi.proofs.moves.narephon_move_back.Goals as goal

pub overflow_cast-place : goal.overflow_cast-place
overflow_cast-place c =
    let a = c.args in
    let m = c.move_back-back in
    let h : m.result.place ≤ 2152 = rw m.ensures.0 (move-place-small Version2 a.bytes.now (length a.target.now)) in
    omega arith
