-- Rule 3.2: the state after a reset.
use Rattle.std.specs.Prelude.{[], ◌∷◌, false, replicate}
use Rattle.state.specs.declared.State.{State}
use Rattle.state.specs.declared.Ula.{Ula}
use Rattle.state.specs.declared.Tiles.{Tiles}
use Rattle.state.specs.declared.Palette.{Palette}

-- $14: reset $E3
abbrev pub reset_ula : Ula
reset_ula = record { transparent = 0xE3; layers = 0; peripheral = 0; fallback = 0; control = 0; x = 0; y = 0; loresx = 0; loresy = 0 }

-- $4C: reset 15
abbrev pub reset_tiles : Tiles
reset_tiles = record { transparent = 15; control = 0; attribute = 0; xhigh = 0; xlow = 0; y = 0; map = 0; definitions = 0 }

-- $42: reset 15
abbrev pub reset_palette : Palette
reset_palette = record { control = 0; index = 0; mask = 15; held = false; half = 0 }

-- $1A: reset 0, 255, 0, 191; $1B: reset 0, 159, 0, 255
unfoldable pub reset_state : State
reset_state = record {
  ula = reset_ula;
  tiles = reset_tiles;
  palette = reset_palette;
  turns = record { ula = 0; tiles = 0 };
  ports = record { border = 0; timex = 0; select = 0; plus = false };
  frame = 0;
  ulaclip = 0 ∷ 255 ∷ 0 ∷ 191 ∷ [];
  tileclip = 0 ∷ 159 ∷ 0 ∷ 255 ∷ [];
  plus = replicate 64 0;
  ulafirst = replicate 256 0;
  ulasecond = replicate 256 0;
  tilefirst = replicate 256 0;
  tilesecond = replicate 256 0;
}
