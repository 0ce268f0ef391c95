-- Rules 3.4, 3.6, 3.18, 3.22 to 3.24 and 3.32: what a write does to each register that is stored, in the order of their numbers.
use Rattle.std.specs.Prelude.{ℕ, ◌%◌}
use Rattle.state.specs.declared.State.{State}
use Rattle.state.specs.declared.Answer.{Answer}
use Rattle.state.specs.Answer.{done}
use Rattle.register_bounds.specs.Bounds.{offset_yfits, tile_transparent_fits, ula_control_fits, tile_control_fits, x_high_fits}
use Rattle.state.specs.Groups.{ula_with_transparent, ula_with_layers, ula_with_peripheral, ula_with_fallback, ula_with_control, ula_with_x, ula_with_y, ula_with_lores_x, ula_with_lores_y, tiles_with_transparent, tiles_with_control, tiles_with_attribute, tiles_with_xhigh, tiles_with_xlow, tiles_with_y, tiles_with_map, tiles_with_definitions}
use Rattle.state.specs.With.{with_ula, with_tiles}
use Rattle.register_answers.specs.Answers.{if_fits}

-- $08: bit 2 allows Timex modes
abbrev pub peripheral_written : State → ℕ → Answer
peripheral_written s v = done (with_ula s (ula_with_peripheral s.ula v))

-- $14: transparent colour
abbrev pub transparent_written : State → ℕ → Answer
transparent_written s v = done (with_ula s (ula_with_transparent s.ula v))

-- $15: bit 7 LoRes
abbrev pub layers_written : State → ℕ → Answer
layers_written s v = done (with_ula s (ula_with_layers s.ula v))

-- $26: ULA X offset
abbrev pub ula_xwritten : State → ℕ → Answer
ula_xwritten s v = done (with_ula s (ula_with_x s.ula v))

-- $27: ULA Y offset, at most 191
abbrev pub ula_ywritten : State → ℕ → Answer
ula_ywritten s v = if_fits (offset_yfits v) (with_ula s (ula_with_y s.ula v)) s

-- $2F: tilemap X, at most 3
abbrev pub tile_xhigh_written : State → ℕ → Answer
tile_xhigh_written s v = if_fits (x_high_fits v) (with_tiles s (tiles_with_xhigh s.tiles v)) s

-- $30: tilemap X
abbrev pub tile_xlow_written : State → ℕ → Answer
tile_xlow_written s v = done (with_tiles s (tiles_with_xlow s.tiles v))

-- $31: tilemap Y, 0 to 255
abbrev pub tile_ywritten : State → ℕ → Answer
tile_ywritten s v = done (with_tiles s (tiles_with_y s.tiles v))

-- $32: LoRes X offset
abbrev pub lores_xwritten : State → ℕ → Answer
lores_xwritten s v = done (with_ula s (ula_with_lores_x s.ula v))

-- $33: LoRes Y offset, at most 191
abbrev pub lores_ywritten : State → ℕ → Answer
lores_ywritten s v = if_fits (offset_yfits v) (with_ula s (ula_with_lores_y s.ula v)) s

-- $4A: fallback
abbrev pub fallback_written : State → ℕ → Answer
fallback_written s v = done (with_ula s (ula_with_fallback s.ula v))

-- $4C: tile transparency, at most 15
abbrev pub tile_transparent_written : State → ℕ → Answer
tile_transparent_written s v = if_fits (tile_transparent_fits v) (with_tiles s (tiles_with_transparent s.tiles v)) s

-- $68: bits 5-1 zero
abbrev pub ula_control_written : State → ℕ → Answer
ula_control_written s v = if_fits (ula_control_fits v) (with_ula s (ula_with_control s.ula v)) s

-- $6B: bits 3-0 zero
abbrev pub tile_control_written : State → ℕ → Answer
tile_control_written s v = if_fits (tile_control_fits v) (with_tiles s (tiles_with_control s.tiles v)) s

-- $6C: the attribute of one-byte entries
abbrev pub tile_attribute_written : State → ℕ → Answer
tile_attribute_written s v = done (with_tiles s (tiles_with_attribute s.tiles v))

-- $6E: the map, a write's bits 7-6 dropped
abbrev pub map_written : State → ℕ → Answer
map_written s v = done (with_tiles s (tiles_with_map s.tiles (v % 64)))

-- $6F: the definitions, a write's bits 7-6 dropped
abbrev pub definitions_written : State → ℕ → Answer
definitions_written s v = done (with_tiles s (tiles_with_definitions s.tiles (v % 64)))
