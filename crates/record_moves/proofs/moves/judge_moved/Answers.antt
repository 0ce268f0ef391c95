-- 16, 17 or 18 where the bytes are no record; then 15 where the pairs differ (Exits).
use mathlib.Core.Path.{sym, ◌∙◌}
use Rattle.record_moves.proofs.Exits.{pairs-long, pairs-met, pairs-differ, record-refused}
use borrow.Author.Rules.{rules}
use Rattle.record_moves.proofs.moves.judge_moved.Goals as goal

pub pairs_agree-requires : goal.pairs_agree-requires
pairs_agree-requires c =
    let a = c.args in
    let j = c.judge-judgement in
    pairs-long a.v a.b.now j.result j.ensures (sym c.is_done.ensures ∙ c.if-is_done.true)

pub returns-then-pairs_agree : goal.returns-then-pairs_agree
returns-then-pairs_agree c =
    let a = c.args in
    let j = c.judge-judgement in
    pairs-met a.v a.b.now j.result j.ensures (sym c.is_done.ensures ∙ c.if-is_done.true) (sym c.pairs_agree.ensures ∙ c.if-pairs_agree.true)

pub returns-else-pairs_agree : goal.returns-else-pairs_agree
returns-else-pairs_agree c =
    let a = c.args in
    let j = c.judge-judgement in
    pairs-differ a.v a.b.now j.result j.ensures (sym c.is_done.ensures ∙ c.if-is_done.true) (sym c.pairs_agree.ensures ∙ c.if-pairs_agree.false)

pub returns-else-is_done : goal.returns-else-is_done
returns-else-is_done c =
    let a = c.args in
    let j = c.judge-judgement in
    record-refused a.v a.b.now j.result j.ensures (sym c.is_done.ensures ∙ c.if-is_done.false)
