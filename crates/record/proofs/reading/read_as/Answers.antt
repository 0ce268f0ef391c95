-- The state in the bytes where their judgement passes them, and the reset state where it does not (Judged).
use mathlib.Core.Path.{sym, ◌∙◌}
use Rattle.record.proofs.Judged.{passed-long, passed-read, refused-read}
use borrow.Author.Rules.{rules}
use Rattle.record.proofs.reading.read_as.Goals as goal

pub state_at-state-requires : goal.state_at-state-requires
state_at-state-requires c =
    let a = c.args in
    let j = c.judge-judgement in
    passed-long a.v a.bytes.now j.result j.ensures (sym c.is_done.ensures ∙ c.if-is_done.true)

pub returns-then-is_done : goal.returns-then-is_done
returns-then-is_done c =
    let a = c.args in
    let j = c.judge-judgement in
    passed-read a.v a.bytes.now j.result j.ensures c.state_at-state.result (sym c.is_done.ensures ∙ c.if-is_done.true) c.state_at-state.ensures

pub returns-else-is_done : goal.returns-else-is_done
returns-else-is_done c =
    let a = c.args in
    let j = c.judge-judgement in
    refused-read a.v a.bytes.now j.result j.ensures c.reset-state.result (sym c.is_done.ensures ∙ c.if-is_done.false) c.reset-state.ensures
