-- Each byte of the bank is what the call at its place gave.
use Rattle.std.proofs.Common.{◌∙◌}
use Rattle.lists.proofs.Tab.{tab-entries, tab-ext}
use Rattle.example_banks.proofs.banks.example_ula.Goals as goal

pub returns : goal.returns
returns c =
    let r = c.from_fn.ensures.items in
    tab-entries c.from_fn.result ∙ rw r.long (tab-ext _ _ 16384 (λ k l. let w = r.at k 0 l in cc))
