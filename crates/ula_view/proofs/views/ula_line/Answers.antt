-- Each field is what its call ensures; the line is below 256.
use Rattle.ula_view.specs.Views.{view_of}
use Rattle.ula_view.specs.Bounds.{shown_state}
use mathlib.Core.Path.{◌∙◌, ap}
use Rattle.ula_view.proofs.Parts.{line_of}
use native.Mathlib.Omega.{arith}
use borrow.Author.Tests.{leb-true}
use Rattle.ula_view.proofs.views.ula_line.Goals as goal

pub view_of-view-requires : goal.view_of-view-requires
view_of-view-requires c = omega (arith, leb-true c.args.line.0 255 c.requires.2)

pub returns : goal.returns
returns c =
    let s = c.args in (
      line_of (shown_state s.u s.p s.ports s.frame s.clip.now s.plus.now s.pal.now) _ _ _ _ _ _ _ c.ula_on-on.ensures c.in_display-display.ensures c.border_of-border.ensures
          (c.view_of-view.ensures.0 ∙ ap (view_of s.u s.ports s.clip.now) c.display_line.ensures) c.colours_of-colours.ensures.0,
      record { view = c.view_of-view.ensures.1; colours = c.colours_of-colours.ensures.1 },
    )
