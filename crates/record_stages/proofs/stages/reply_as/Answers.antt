-- Bytes that pass the one test are done.
use mathlib.Core.Path.{sym, ap, ◌∙◌}
use Rattle.record_layout.specs.declared.Judgement.{Judgement}
use Rattle.record_layout.proofs.Stages.{judged-passed}
use borrow.Author.Rules.{rules}
use Rattle.record_stages.proofs.stages.reply_as.Goals as goal

pub refusal_of-requires : goal.refusal_of-requires
refusal_of-requires c = sym c.is_record.ensures ∙ c.if-is_record.false

pub returns-then-is_record : goal.returns-then-is_record
returns-then-is_record c =
    let a = c.args in ap (λ (j : Judgement). j.reply) (sym (judged-passed a.v a.b.now (sym c.is_record.ensures ∙ c.if-is_record.true)))
