-- Bytes that are counted state a version.
use mathlib.Core.Path.{sym, ◌∙◌}
use Rattle.record_layout.proofs.Stages.{counted-long}
use Rattle.record_stages.proofs.stages.is_record.Goals as goal

pub has_version-requires : goal.has_version-requires
has_version-requires c = counted-long c.args.b.now (sym c.has_count.ensures ∙ c.if-has_count.true)
