-- Bytes are read as those of the version that has their length.
use mathlib.Core.Path.{ap, ◌∙◌}
use Rattle.record_layout.specs.declared.Version.{Version}
use Rattle.record_layout.specs.Record.{read_as, read_record}
use borrow.Author.Rules.{rules}
use Rattle.record.proofs.reading.read_record.Goals as goal

pub returns : goal.returns
unfolding read_record
returns c = c.read_as.ensures ∙ ap (λ (v : Version). read_as v c.args.bytes.now) c.version_of.ensures
