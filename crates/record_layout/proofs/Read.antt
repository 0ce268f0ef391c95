-- What the state in a record holds, by the places of its version: by computation, version by version. `n` is what the version adds, so that a part after $33
-- stands n further than in version 1.
use mathlib.Core.Path.{◌≡◌, refl}
use mathlib.Core.List.{List}
use Prim.Native.Nat.{ℕ, ◌+◌}
use lib.ListN.{get_or}
use lib.Dec.{eqb}
use Rattle.state.specs.declared.Ula.{Ula}
use Rattle.state.specs.declared.Tiles.{Tiles}
use Rattle.state.specs.declared.Palette.{Palette}
use Rattle.state.specs.declared.Turns.{Turns}
use Rattle.state.specs.declared.Ports.{Ports}
use Rattle.record_layout.specs.declared.Version.{Version}
use Rattle.record_layout.specs.declared.Version.TheVariants.{Version1, Version2}
use Rattle.record_layout.specs.Fields.{byte, pair, row_at}
use Rattle.record_layout.specs.Version.{added}
use Rattle.record_layout.specs.Places.{ula_transparent_place, layers_place, peripheral_place, palette_control_place, index_place, mask_place, fallback_place, tile_transparent_place, ula_control_place, tile_control_place, attribute_place, tile_xhigh_place, tile_xlow_place, tile_yplace, map_place, definitions_place, lores_xplace, lores_yplace, ula_turn_place, tile_turn_place, held_place, half_place, border_place, timex_place, select_place, plus_on_place, frame_place, ula_clip_place, tile_clip_place, plus_place, ula_first_place, ula_second_place, tile_first_place, tile_second_place}
use Rattle.record_layout.specs.Record.{state_as}

module _ (b : List ℕ) where
  abbrev byte_at : ℕ → ℕ
  byte_at k = get_or b k 0

  abbrev ula_at : ℕ → Ula
  ula_at n = record { transparent = byte_at ula_transparent_place; layers = byte_at layers_place; peripheral = byte_at peripheral_place; fallback = byte_at fallback_place; control = byte_at ula_control_place; x = byte_at (lores_xplace + n); y = byte_at (lores_yplace + n); loresx = byte_at lores_xplace; loresy = byte_at lores_yplace }

  pub ula-read : (v : Version) (n : ℕ) → n ≡ added v → ula_at n ≡ (state_as v b).ula
  unfolding state_as
  ula-read Version1 n e = rw e
  ula-read Version2 n e = rw e

  abbrev tiles_at : Tiles
  tiles_at = record { transparent = byte_at tile_transparent_place; control = byte_at tile_control_place; attribute = byte_at attribute_place; xhigh = byte_at tile_xhigh_place; xlow = byte_at tile_xlow_place; y = byte_at tile_yplace; map = byte_at map_place; definitions = byte_at definitions_place }

  pub tiles-read : (v : Version) → tiles_at ≡ (state_as v b).tiles
  unfolding state_as
  tiles-read Version1 = refl
  tiles-read Version2 = refl

  abbrev palette_at : ℕ → Palette
  palette_at n = record { control = byte_at palette_control_place; index = byte_at index_place; mask = byte_at mask_place; held = eqb (byte_at (held_place Version1 + n)) 1; half = byte_at (half_place Version1 + n) }

  pub palette-read : (v : Version) (n : ℕ) → n ≡ added v → palette_at n ≡ (state_as v b).palette
  unfolding state_as
  palette-read Version1 n e = rw e
  palette-read Version2 n e = rw e

  abbrev turns_at : ℕ → Turns
  turns_at n = record { ula = byte_at (ula_turn_place Version1 + n); tiles = byte_at (tile_turn_place Version1 + n) }

  pub turns-read : (v : Version) (n : ℕ) → n ≡ added v → turns_at n ≡ (state_as v b).turns
  unfolding state_as
  turns-read Version1 n e = rw e
  turns-read Version2 n e = rw e

  abbrev ports_at : ℕ → Ports
  ports_at n = record { border = byte_at (border_place Version1 + n); timex = byte_at (timex_place Version1 + n); select = byte_at (select_place Version1 + n); plus = eqb (byte_at (plus_on_place Version1 + n)) 1 }

  pub ports-read : (v : Version) (n : ℕ) → n ≡ added v → ports_at n ≡ (state_as v b).ports
  unfolding state_as
  ports-read Version1 n e = rw e
  ports-read Version2 n e = rw e

  pub frame-read : (v : Version) (n : ℕ) → n ≡ added v → byte_at (frame_place Version1 + n) ≡ (state_as v b).frame
  unfolding state_as
  frame-read Version1 n e = rw e
  frame-read Version2 n e = rw e

  pub ulaclip-read : (v : Version) → row_at byte 4 b (ula_clip_place v) ≡ (state_as v b).ulaclip
  unfolding state_as
  ulaclip-read Version1 = refl
  ulaclip-read Version2 = refl

  pub tileclip-read : (v : Version) → row_at byte 4 b (tile_clip_place v) ≡ (state_as v b).tileclip
  unfolding state_as
  tileclip-read Version1 = refl
  tileclip-read Version2 = refl

  pub plus-read : (v : Version) → row_at byte 64 b (plus_place v) ≡ (state_as v b).plus
  unfolding state_as
  plus-read Version1 = refl
  plus-read Version2 = refl

  pub ulafirst-read : (v : Version) → row_at pair 256 b (ula_first_place v) ≡ (state_as v b).ulafirst
  unfolding state_as
  ulafirst-read Version1 = refl
  ulafirst-read Version2 = refl

  pub ulasecond-read : (v : Version) → row_at pair 256 b (ula_second_place v) ≡ (state_as v b).ulasecond
  unfolding state_as
  ulasecond-read Version1 = refl
  ulasecond-read Version2 = refl

  pub tilefirst-read : (v : Version) → row_at pair 256 b (tile_first_place v) ≡ (state_as v b).tilefirst
  unfolding state_as
  tilefirst-read Version1 = refl
  tilefirst-read Version2 = refl

  pub tilesecond-read : (v : Version) → row_at pair 256 b (tile_second_place v) ≡ (state_as v b).tilesecond
  unfolding state_as
  tilesecond-read Version1 = refl
  tilesecond-read Version2 = refl
