-- `fewest`: refused early, or answered by its count; demand 3 is that of the answer.
use Rattle.reply.specs.Reply.{reply_number}
use Rattle.pack_rule.proofs.Answers.{good}
use Rattle.packer.proofs.Answers.{early-fewest, counts-fewest}
use native.Mathlib.Omega.{arith}
use Rattle.std.specs.Prelude.{Err, Some, None}
use mathlib.Core.Path.{◌≡◌, ap}
use borrow.Author.Rules.{rules}
use Rattle.packer.proofs.fewest.Goals as goal

pub returns-in_err-judge : goal.returns-in_err-judge
returns-in_err-judge c =
    let j = c.in_err-judge.ensures in
    let e : c.from_residual.result ≡ Err c.in_err-judge.field-0.0 = search rules in
    rw e (early-fewest c.args.picture.now (λ i. omega (arith, c.type_inv.picture i)) _ j.0 j.1)

pub count-requires : goal.count-requires
count-requires c =
    let g = good _ 2560 8192 256 0 (ap reply_number c.in_ok-judge.ensures) in
    (g.pic-length, omega arith)

pub returns-in_default : goal.returns-in_default
returns-in_default c = counts-fewest c.args.picture.now (λ i. omega (arith, c.type_inv.picture i)) c.in_ok-judge.ensures None c.in_default.ensures

pub returns : goal.returns
returns c = counts-fewest c.args.picture.now (λ i. omega (arith, c.type_inv.picture i)) c.in_ok-judge.ensures (Some c.in-Some.n) c.in-Some.ensures
