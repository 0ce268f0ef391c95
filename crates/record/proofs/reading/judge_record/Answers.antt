-- Bytes are judged as those of the version that has their length.
use mathlib.Core.Path.{ap, ◌∙◌}
use Rattle.record_layout.specs.declared.Version.{Version}
use Rattle.record_layout.specs.Record.{judged, judged_record}
use borrow.Author.Rules.{rules}
use Rattle.record.proofs.reading.judge_record.Goals as goal

pub returns : goal.returns
unfolding judged_record
returns c = c.judge.ensures ∙ ap (λ (v : Version). judged v c.args.bytes.now) c.version_of.ensures
