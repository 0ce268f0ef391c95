-- A list of one value is that value in a row.
use Rattle.std.proofs.Common.{sym, ◌∙◌, length}
use Rattle.lists.proofs.Tab.{tab-constant}
use Rattle.surface_rows.proofs.rows.paint.Goals as goal

pub returns : goal.returns
returns c = c.fill.ensures.after (λ y e. e) ∙ sym (tab-constant c.args.v (length c.args.out.now))
