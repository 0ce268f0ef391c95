-- The first stage that the bytes fail, or the last.
use mathlib.Core.Path.{sym, ◌∙◌}
use Rattle.record_layout.proofs.Stages.{counted-long, refused-count, refused-version, refused-field}
use Rattle.record_stages.proofs.stages.refusal_of.Goals as goal

pub has_version-requires : goal.has_version-requires
has_version-requires c = counted-long c.args.b.now (sym c.has_count.ensures ∙ c.if-not-has_count.false)

pub returns-then-not-has_count : goal.returns-then-not-has_count
returns-then-not-has_count c = let a = c.args in sym (refused-count a.v a.b.now (sym c.has_count.ensures ∙ c.if-not-has_count.true))

pub returns-then-not-has_version : goal.returns-then-not-has_version
returns-then-not-has_version c =
    let a = c.args in
    sym (refused-version a.v a.b.now (sym c.has_count.ensures ∙ c.if-not-has_count.false) (sym c.has_version.ensures ∙ c.if-not-has_version.true))

pub returns-else-not-has_version : goal.returns-else-not-has_version
returns-else-not-has_version c =
    let a = c.args in
    sym (refused-field a.v a.b.now (sym c.has_count.ensures ∙ c.if-not-has_count.false) (sym c.has_version.ensures ∙ c.if-not-has_version.false) c.requires)
