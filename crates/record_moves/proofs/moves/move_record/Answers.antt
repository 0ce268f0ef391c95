-- The refusals in their order; the record is put where none comes (Exits).
use mathlib.Core.Path.{sym, ap, ◌∙◌}
use Rattle.reply.specs.Reply.{is_done}
use Rattle.reply.proofs.Done.{is-done}
use Rattle.record_layout.specs.declared.Judgement.{Judgement}
use Rattle.record_layout.specs.Record.{record_length}
use Rattle.record_moves.proofs.Exits.{ordered, met, moved, left}
use borrow.Author.Rules.{rules}
use Rattle.record_moves.proofs.moves.move_record.Goals as goal

pub put_in-requires : goal.put_in-requires
put_in-requires c =
    let a = c.args in
    let w = c.other_version-w in
    let l = c.length_of in
    let s = c.length_reply-long in
    let f = c.judge_moved-stored in
    let r = c.target_first-answer in
    let e = ordered a.v a.b.now a.target.now w.result l.result s.result f.result r.result w.ensures l.ensures s.ensures f.ensures r.ensures in
    let reply = ap (λ (j : Judgement). j.reply) e in
    let m = met a.v a.b.now a.target.now (sym reply ∙ is-done r.result.reply (sym c.is_done.ensures ∙ c.if-is_done.true)) in
    (m.0, m.1, m.2, m.3 ∙ ap record_length (sym w.ensures))

pub returns-then-is_done : goal.returns-then-is_done
returns-then-is_done c =
    let a = c.args in
    let w = c.other_version-w in
    let l = c.length_of in
    let s = c.length_reply-long in
    let f = c.judge_moved-stored in
    let r = c.target_first-answer in
    let e = ordered a.v a.b.now a.target.now w.result l.result s.result f.result r.result w.ensures l.ensures s.ensures f.ensures r.ensures in
    let reply = ap (λ (j : Judgement). j.reply) e in
    let d = ap is_done (sym reply) ∙ sym c.is_done.ensures ∙ c.if-is_done.true in
    (e, moved a.v a.b.now a.target.now w.result _ d w.ensures c.put_in.ensures)

pub returns-else-is_done : goal.returns-else-is_done
returns-else-is_done c =
    let a = c.args in
    let w = c.other_version-w in
    let l = c.length_of in
    let s = c.length_reply-long in
    let f = c.judge_moved-stored in
    let r = c.target_first-answer in
    let e = ordered a.v a.b.now a.target.now w.result l.result s.result f.result r.result w.ensures l.ensures s.ensures f.ensures r.ensures in
    let reply = ap (λ (j : Judgement). j.reply) e in
    (e, left a.v a.b.now a.target.now (ap is_done (sym reply) ∙ sym c.is_done.ensures ∙ c.if-is_done.false))
