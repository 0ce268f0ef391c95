-- The four palettes, at their places in the version.
use Rattle.record_stages.proofs.Groups.{colours-kept}
use borrow.Author.Rules.{rules}
use Rattle.record_stages.proofs.stages.has_palettes.Goals as goal

pub returns : goal.returns
returns c =
    let a = c.args in
    colours-kept a.v a.b.now _ c.added-n.ensures.0 _ _ _ _
    c.is_palette-first.ensures c.is_palette-second.ensures c.is_palette-third.ensures c.is_palette-fourth.ensures
