-- What is shown of a lawful state keeps the bounds; its line, and the fallback over it.
use mathlib.Core.Path.{◌∙◌}
use Rattle.register_parts.specs.Parts.{state_with}
use Rattle.line.proofs.Bounded.{bounds_of}
use Rattle.line.proofs.ShownParts.{chosen-line}
use Rattle.line.proofs.Layers.{finished-line}
use borrow.Author.Rules.{rules}
use Rattle.trace.proofs.lines.draw_parts.Goals as goal

pub composed_chosen-requires : goal.composed_chosen-requires
composed_chosen-requires c =
    let a = c.args in
    (bounds_of (state_with a.g a.p.now) _ c.requires.0 c.shown_of-v.ensures, c.requires.1, c.requires.2, c.requires.3, c.requires.4)

pub returns : goal.returns
returns c =
    let a = c.args in
    let s = state_with a.g a.p.now in
    finished-line s _ _ _ _ _ _ c.finish_line.ensures (c.composed_chosen.ensures ∙ chosen-line a.ula.now a.tile.now a.line s _ c.shown_of-v.ensures) c.widen.ensures
