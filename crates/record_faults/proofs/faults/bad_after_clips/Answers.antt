-- Each field tells its place, or what those behind it tell.
use mathlib.Core.Path.{◌≡◌, ◌∙◌}
use Rattle.record_faults.proofs.Walks.{seven_fields, after-walk}
use borrow.Author.Rules.{rules}
use Rattle.record_faults.proofs.faults.bad_after_clips.Goals as goal

pub returns : goal.returns
returns c =
    let a = c.args in
    let n = c.added-n in
    let e : c.unless.result ≡ seven_fields a.b.now n.result a.next = cc in
    e ∙ after-walk a.b.now n.result a.v a.next n.ensures.0
