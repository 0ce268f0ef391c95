-- Each part is what its call ensures.
use mathlib.Core.Path.{ap, ◌∙◌}
use Rattle.tilemap_setup.specs.Setup.{setup_of}
use Rattle.line_tiles.proofs.Laid.{tiles-of}
use Rattle.line_tiles.proofs.tiles.tiles_over.Goals as goal

pub returns : goal.returns
returns c =
    let s = c.args in
    tiles-of s.u s.t s.clip.now s.bank.now _ s.out.now _ _ _ _ _ c.layered.ensures (c.setup_of-l.ensures.0 ∙ ap (setup_of s.t) c.ula_on.ensures) c.window_of-w.ensures c.stencil_on-stencil.ensures
