-- Filled and shown where nothing refuses (Read), else all as it was.
use mathlib.Core.Path.{ap, ◌∙◌}
use lib.ListN.{length}
use Rattle.reply.specs.declared.Reply.{Reply}
use Rattle.state.specs.Lawful.{lawful_reply}
use Rattle.scr_replies.specs.Judged.{read_judged}
use Rattle.scr.proofs.Read.{accepted, parts-there, told, told-done, told-not, bank-read, bank-left, answer-done, answer-refused}
use borrow.Author.Rules.{rules}
use Rattle.scr.proofs.reading.read_scr.Goals as goal

pub fill-requires : goal.fill-requires
fill-requires c =
    let a = c.args in
    let f = c.shape_of-found in
    let q = c.read_reply-r in
    let n = c.is_done in
    let e = q.ensures ∙ ap (λ (x : Reply). read_judged x (length a.bank.now) f.result.mode) c.lawful_reply.ensures in
    let z = c.if-is_done.true in
    ((accepted (lawful_reply a.s) a.bank.now a.file.now f.result q.result n.result f.ensures e n.ensures z).sized, parts-there (lawful_reply a.s) a.bank.now a.file.now f.result q.result n.result f.ensures e n.ensures z)

pub state_read-state-requires : goal.state_read-state-requires
state_read-state-requires c =
    let a = c.args in
    let f = c.shape_of-found in
    let q = c.read_reply-r in
    let n = c.is_done in
    let e = q.ensures ∙ ap (λ (x : Reply). read_judged x (length a.bank.now) f.result.mode) c.lawful_reply.ensures in
    (f.ensures, (accepted (lawful_reply a.s) a.bank.now a.file.now f.result q.result n.result f.ensures e n.ensures c.if-is_done.true).formed)

pub returns-then-is_done : goal.returns-then-is_done
returns-then-is_done c =
    let a = c.args in
    let f = c.shape_of-found in
    let q = c.read_reply-r in
    let n = c.is_done in
    let e = q.ensures ∙ ap (λ (x : Reply). read_judged x (length a.bank.now) f.result.mode) c.lawful_reply.ensures in
    let z = c.if-is_done.true in (
      answer-done a.s c.state_read-state.result a.bank.now a.file.now (told-done (lawful_reply a.s) a.bank.now a.file.now f.result q.result n.result f.ensures e n.ensures z) c.state_read-state.ensures,
      bank-read (lawful_reply a.s) a.bank.now a.file.now f.result q.result n.result f.ensures e n.ensures z _ c.fill.ensures,
    )

pub returns-else-is_done : goal.returns-else-is_done
returns-else-is_done c =
    let a = c.args in
    let f = c.shape_of-found in
    let q = c.read_reply-r in
    let n = c.is_done in
    let e = q.ensures ∙ ap (λ (x : Reply). read_judged x (length a.bank.now) f.result.mode) c.lawful_reply.ensures in
    let z = c.if-is_done.false in (
      answer-refused a.s a.bank.now a.file.now q.result (told (lawful_reply a.s) a.bank.now a.file.now f.result q.result n.result f.ensures e n.ensures) (told-not (lawful_reply a.s) a.bank.now a.file.now f.result q.result n.result f.ensures e n.ensures z),
      bank-left (lawful_reply a.s) a.bank.now a.file.now f.result q.result n.result f.ensures e n.ensures z,
    )
