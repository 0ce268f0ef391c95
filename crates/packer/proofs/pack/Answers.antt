-- `pack`: refused early, or written and answered by the law that joins the two.
use Rattle.reply.specs.Reply.{reply_number}
use Rattle.pack_rule.proofs.Answers.{good}
use Rattle.packer.proofs.Answers.{early, packed}
use native.Mathlib.Omega.{arith}
use Rattle.std.specs.Prelude.{Err}
use mathlib.Core.Path.{◌≡◌, ap}
use borrow.Author.Rules.{rules}
use Rattle.packer.proofs.pack.Goals as goal

pub returns-in_err-judge : goal.returns-in_err-judge
returns-in_err-judge c =
    let a = c.args in
    let j = c.in_err-judge.ensures in
    let e : c.from_residual.result ≡ Err c.in_err-judge.field-0.0 = search rules in
    rw e
    (early a.picture.now a.allowed a.offset a.map.now a.definitions.now
    (λ i. omega (arith, c.type_inv.picture i)) _ j.0 j.1)

pub write-requires : goal.write-requires
write-requires c =
    let g = good _ _ _ _ _ (ap reply_number c.in_ok-judge.ensures) in
    (g.pic-length, g.allowed-small, omega (arith, g.offset-small), g.map-length, g.defs-length)

pub returns : goal.returns
returns c =
    let a = c.args in
    rw c.ok_or.ensures.value
    (packed a.picture.now a.allowed a.offset a.map.now a.definitions.now
    (λ i. omega (arith, c.type_inv.picture i)) c.in_ok-judge.ensures _ _ _ c.write.ensures)
