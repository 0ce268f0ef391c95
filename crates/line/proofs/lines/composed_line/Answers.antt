-- What is shown of a lawful state keeps the bounds, and its line is the state's.
use mathlib.Core.Path.{ap, ◌∙◌}
use Rattle.register_parts.specs.declared.Registers.{Registers}
use Rattle.register_parts.specs.Parts.{bare}
use Rattle.line.specs.Shown.{shown_of}
use Rattle.line.proofs.Bounded.{bounds_of}
use Rattle.line.proofs.ShownParts.{chosen-line}
use borrow.Author.Rules.{rules}
use Rattle.line.proofs.lines.composed_line.Goals as goal

pub composed_chosen-requires : goal.composed_chosen-requires
composed_chosen-requires c =
    (bounds_of c.args.s _ c.requires.0 (c.shown_of-v.ensures ∙ ap (λ (g : Registers). shown_of (bare g)) c.registers_of.ensures), c.requires.1, c.requires.2, c.requires.3, c.requires.4)

pub returns : goal.returns
returns c =
    let a = c.args in
    c.composed_chosen.ensures ∙ chosen-line a.ula.now a.tile.now a.line a.s _ (c.shown_of-v.ensures ∙ ap (λ (g : Registers). shown_of (bare g)) c.registers_of.ensures)
