-- `narephon_pack` takes the packing apart; its count is at most the number allowed, so it fits.
use Prim.Native.Nat.{ℕ, ◌≤◌}
use Rattle.std.specs.Prelude.{Result}
use Rattle.reply.specs.declared.Reply.{Reply}
use Rattle.reply.specs.Reply.{reply_number}
use Rattle.reply.specs.Answered.{reply_of, value_of}
use Rattle.pack_rule.proofs.Answers.{count_small}
use Rattle.capi_pictures.proofs.Unwrapped.{unwrapped}
use native.Mathlib.Omega.{arith}
use mathlib.Core.Path.{◌≡◌, ap, ◌∙◌}
use borrow.Author.Rules.{rules}
use Rattle.capi_pictures.proofs.pictures.narephon_pack.Goals as goal

pub overflow_cast-count : goal.overflow_cast-count
overflow_cast-count c =
    let p = c.pack-packing in
    let h : value_of p.result ≤ c.args.allowed = rw p.ensures.answer-is (count_small _ _ _ _ _) in
    let k : c.unwrap_or.result ≡ value_of p.result = c.unwrap_or.ensures ∙ unwrapped p.result in
    omega (arith, h, k)

pub returns : goal.returns
returns c =
    let p = c.pack-packing in
    let e = p.ensures.answer-is in
    record {
      reply-is = c.from.ensures ∙ ap reply_number c.reply_of.ensures ∙ ap (λ (a : Result ℕ Reply). reply_number (reply_of a)) e;
      count-is = c.unwrap_or.ensures ∙ unwrapped p.result ∙ ap value_of e;
      packs = rw e at p.ensures;
    }
