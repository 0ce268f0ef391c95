-- Each palette is the one chosen.
use Prim.Native.Nat.{ℕ}
use mathlib.Core.List.{List}
use mathlib.Core.Path.{sym, subst, ap₂, ◌∙◌}
use Rattle.line.specs.Lines.{composed_line}
use Rattle.line.specs.Shown.{state_shown, ShownBounds}
use borrow.Author.Rules.{rules}
use Rattle.line.proofs.lines.composed_chosen.Goals as goal

pub composed_shown-requires : goal.composed_shown-requires
composed_shown-requires c =
    (subst (λ (p : List ℕ). ShownBounds c.args.v p) (sym c.tile_palette-tilepal.ensures) c.requires.0, c.requires.1, c.requires.2, c.requires.3, c.requires.4)

pub returns : goal.returns
returns c =
    let a = c.args in
    c.composed_shown.ensures
    ∙ ap₂ (λ (p q : List ℕ). composed_line (state_shown a.v p q) a.ula.now a.tile.now a.line) c.ula_palette-ulapal.ensures c.tile_palette-tilepal.ensures
