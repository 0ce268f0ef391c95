-- Rule 2.5: what a line shows of a state. Besides the two palettes shown it is a few bytes, so that a line can be drawn where no
-- whole state is at hand.
use Rattle.std.specs.Prelude.{ℕ, ◌≤◌, ◌<◌, ◌≡◌, List, true, get_or}
use Rattle.state_bits.specs.Bits.{tilemap_on}
use Rattle.register_bounds.specs.Bounds.{is_mask}
use Rattle.state.specs.Lawful.{all_colours}
use Rattle.state.specs.Reset.{reset_state}
use Rattle.state.specs.declared.State.{State}
use Rattle.line.specs.declared.parts.Shown.{Shown}

-- what a line shows of a state
abbrev pub shown_of : State → Shown
shown_of s = record {
  ula = s.ula;
  palette = s.palette;
  tiles = s.tiles;
  ports = s.ports;
  frame = s.frame;
  ulaclip = s.ulaclip;
  tileclip = s.tileclip;
  plus = s.plus;
}

-- a state that shows these parts and these palettes, whichever of its palettes it shows
abbrev pub state_shown : Shown → List ℕ → List ℕ → State
state_shown v ulapal tilepal = record {
  ula = v.ula;
  tiles = v.tiles;
  palette = v.palette;
  turns = reset_state.turns;
  ports = v.ports;
  frame = v.frame;
  ulaclip = v.ulaclip;
  tileclip = v.tileclip;
  plus = v.plus;
  ulafirst = ulapal;
  ulasecond = ulapal;
  tilefirst = tilepal;
  tilesecond = tilepal;
}

-- the bounds of a lawful state, as far as drawing asks; the tilemap palette counts where the tilemap is on
pub record ShownBounds (v : Shown) (tilepal : List ℕ) : Type 0 where
  pub mask : is_mask v.palette.mask ≡ true
  pub border : v.ports.border ≤ 7
  pub xhigh : v.tiles.xhigh ≤ 3
  pub map : v.tiles.map < 64
  pub definitions : v.tiles.definitions < 64
  pub colours : tilemap_on v.tiles ≡ true → all_colours tilepal ≡ true

-- the bytes of a state that the bound of a dot goes by, as their types give it
pub record ShownBytes (s : State) : Type 0 where
  pub fallback : s.ula.fallback < 256
  pub plus : (i : ℕ) → get_or s.plus i 0 < 256
