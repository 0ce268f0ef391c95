-- The state in a record by its places: $26 at x, $27 at y, and the parts after them from a place on. Both versions are read so.
use mathlib.Core.List.{List}
use Prim.Native.Nat.{ℕ}
use lib.ListN.{get_or}
use lib.Dec.{eqb}
use Rattle.state.specs.declared.State.{State}
use Rattle.state.specs.With.{state_of}
use Rattle.record_layout.specs.Fields.{byte, pair, row_at}
use Rattle.record_layout.specs.Layout.{after_scrolls}
use Rattle.record_layout.specs.Places.{ula_transparent_place, layers_place, peripheral_place, palette_control_place, index_place, mask_place, fallback_place, tile_transparent_place, ula_control_place, tile_control_place, attribute_place, tile_xhigh_place, tile_xlow_place, tile_yplace, map_place, definitions_place, lores_xplace, lores_yplace}
use Rattle.record_layout.proofs.Parts.{place_of}

module _ (b : List ℕ) (x y at : ℕ) where
  abbrev place : ℕ → ℕ
  place n = place_of n after_scrolls at

  abbrev byte_at : ℕ → ℕ
  byte_at k = get_or b k 0

  abbrev pub state_from : State
  state_from =
      state_of
      (record { transparent = byte_at ula_transparent_place; layers = byte_at layers_place; peripheral = byte_at peripheral_place; fallback = byte_at fallback_place; control = byte_at ula_control_place; x = byte_at x; y = byte_at y; loresx = byte_at lores_xplace; loresy = byte_at lores_yplace })
      (record { transparent = byte_at tile_transparent_place; control = byte_at tile_control_place; attribute = byte_at attribute_place; xhigh = byte_at tile_xhigh_place; xlow = byte_at tile_xlow_place; y = byte_at tile_yplace; map = byte_at map_place; definitions = byte_at definitions_place })
      (record { control = byte_at palette_control_place; index = byte_at index_place; mask = byte_at mask_place; held = eqb (byte_at (place 4)) 1; half = byte_at (place 5) })
      (record { ula = byte_at (place 2); tiles = byte_at (place 3) })
      (record { border = byte_at (place 6); timex = byte_at (place 7); select = byte_at (place 8); plus = eqb (byte_at (place 9)) 1 })
      (byte_at (place 10))
      (row_at byte 4 b (place 0)) (row_at byte 4 b (place 1)) (row_at byte 64 b (place 11))
      (row_at pair 256 b (place 12)) (row_at pair 256 b (place 13)) (row_at pair 256 b (place 14)) (row_at pair 256 b (place 15))
