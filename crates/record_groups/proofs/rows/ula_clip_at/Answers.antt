-- Four bytes from the place of the clip in the version.
use mathlib.Core.Path.{ap, ◌∙◌}
use Rattle.record_layout.specs.Fields.{byte, row_at}
use Rattle.record_layout.proofs.Read.{ulaclip-read}
use borrow.Author.Rules.{rules}
use Rattle.record_groups.proofs.rows.ula_clip_at.Goals as goal

pub returns : goal.returns
returns c = c.four_at.ensures ∙ ap (row_at byte 4 c.args.b.now) c.in_version.ensures ∙ ulaclip-read _ _
