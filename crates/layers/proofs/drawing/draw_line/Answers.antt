-- The composed line has dots of at most 512, and the lent lines are laid over it.
use mathlib.Core.Path.{refl}
use Rattle.record_layout.proofs.Arguments.{argument-typed}
use Rattle.line_laws.proofs.Composed.{typed-bytes}
use Rattle.layers.proofs.Layers.{row-bounds, line-laid}
use borrow.Author.Rules.{rules}
use Rattle.layers.proofs.drawing.draw_line.Goals as goal

pub lay_layers-requires : goal.lay_layers-requires
lay_layers-requires c =
    let p = c.requires in
    row-bounds c.args.s _ _ _ _ _ c.args.line _ refl c.composed_line.ensures (typed-bytes c.args.s (argument-typed c.args.s c.well_formed.0)) p.0 p.5 p.6 p.7 p.8

pub returns : goal.returns
returns c = line-laid c.args.s _ _ _ _ _ c.args.line _ refl c.composed_line.ensures _ c.lay_layers.ensures
