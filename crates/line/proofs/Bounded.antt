-- A lawful state keeps the bounds that drawing asks for.
use mathlib.Core.Path.{◌≡◌, refl, sym, subst}
use mathlib.Core.Bool.{true, cond}
use borrow.Author.Tests.{leb-true, ltb-true}
use Rattle.state_bits.specs.Bits.{tile_second_shown}
use Rattle.state.specs.Lawful.{lawful_state}
use Rattle.state.proofs.Kept.{lawful-kept}
use Rattle.state.specs.declared.State.{State}
use Rattle.line.specs.Lines.{tile_palette}
use Rattle.line.specs.Shown.{shown_of, ShownBounds}
use Rattle.line.specs.declared.parts.Shown.{Shown}
use Rattle.line_dots.proofs.Shaded.{shown-colours}

pub bounded : (s : State) → lawful_state s ≡ true → ShownBounds (shown_of s) (tile_palette s)
unfolding tile_palette
bounded s e =
    let t = s.tiles in
    let k = lawful-kept s e in
    record {
      mask = k.mask;
      border = leb-true s.ports.border 7 k.border;
      xhigh = leb-true t.xhigh 3 k.xhigh;
      map = ltb-true t.map 64 k.map;
      definitions = ltb-true t.definitions 64 k.definitions;
      colours = λ on. shown-colours (tile_second_shown t) (tile_palette s) s.tilefirst s.tilesecond refl k.tilefirst k.tilesecond;
    }

-- of what is shown of it, with the palette that is chosen
pub bounds_of : (s : State) (v : Shown) → lawful_state s ≡ true → v ≡ shown_of s → ShownBounds v (cond (tile_second_shown v.tiles) s.tilesecond s.tilefirst)
unfolding tile_palette
bounds_of s v h e = subst (λ (w : Shown). ShownBounds w (cond (tile_second_shown w.tiles) s.tilesecond s.tilefirst)) (sym e) (bounded s h)
