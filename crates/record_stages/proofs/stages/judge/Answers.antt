-- The reply, and the place that it tells.
use mathlib.Core.Path.{ap₂}
use Rattle.record_layout.specs.Record.{told}
use Rattle.record_stages.proofs.stages.judge.Goals as goal

pub returns : goal.returns
returns c = ap₂ told c.reply_as-reply.ensures c.place_of-place.ensures
