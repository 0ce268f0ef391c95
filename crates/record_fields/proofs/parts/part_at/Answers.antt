use Rattle.std.proofs.Common.{rules, ap, ◌∙◌, ℕ, Bool, nat_lt}
use Rattle.std.proofs.lemmas.Iterator.{YieldsList-from_slice}
use Rattle.std.proofs.lemmas.Iterator.Search.{position_from_yields_List}
use Rattle.std.specs.List.{position}
use Rattle.std.specs.Option.{unwrap_or}
use Rattle.record_fields.specs.Parts.{part_at}
use Rattle.record_fields.proofs.parts.part_at.Goals as goal

pub returns : goal.returns
unfolding part_at
returns c =
    let p : ℕ → Bool = λ end. nat_lt c.args.place end in
    let found = position_from_yields_List p _ _ c.position.result c.position.ensures.ran (YieldsList-from_slice c.part_ends-ends.result cc) (λ x b q. search rules) in
    c.unwrap_or.ensures ∙ ap (λ o. unwrap_or o 36) found ∙ ap (λ ends. unwrap_or (position p ends) 36) c.part_ends-ends.ensures
