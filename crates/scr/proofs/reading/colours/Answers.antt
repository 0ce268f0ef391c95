-- Both tests in one, and the part by its function.
use Prim.Native.Nat.{ℕ, ◌+◌}
use mathlib.Core.Path.{ap, ◌∙◌}
use lib.ListN.{length}
use Rattle.reply.specs.declared.Reply.{Reply}
use Rattle.state.specs.Lawful.{lawful_reply}
use Rattle.scr_forms.specs.declared.files.Shape.{Shape}
use Rattle.scr_replies.specs.Judged.{read_judged}
use Rattle.reply.specs.Reply.{is_done}
use Rattle.scr.specs.Reads.{read_reply}
use Rattle.scr.proofs.Read.{told, lent_fits, lent-place, lent-part}
use borrow.Author.Rules.{rules}
use Rattle.scr.proofs.reading.colours.Goals as goal

pub part-requires : goal.part-requires
part-requires c =
    let a = c.args in
    let f = c.shape_of-found in
    lent_fits a.file.now f.result.colours c.is_done-done.result (ap (λ (x : Shape). x.colours) f.ensures)

pub returns : goal.returns
returns c =
    let a = c.args in
    let f = c.shape_of-found in
    let q = c.read_reply in
    let n = c.is_done-done in
    let w = told (lawful_reply a.s) a.bank.now a.file.now f.result q.result n.result f.ensures (q.ensures ∙ ap (λ (x : Reply). read_judged x (length a.bank.now) f.result.mode) c.lawful_reply.ensures) n.ensures in
    let d = n.ensures ∙ ap is_done w in
    let e = ap (λ (x : Shape). x.colours) f.ensures in (
      c.part.ensures.0 ∙ lent-part a.file.now f.result.colours n.result e (read_reply a.s a.bank.now a.file.now) d,
      c.part.ensures.1
          ∙ ap (λ (x : ℕ). (a.file.ref_ptr.0, x + a.file.ref_ptr.1)) (lent-place a.file.now f.result.colours n.result e (read_reply a.s a.bank.now a.file.now) d),
    )
