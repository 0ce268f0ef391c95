-- The state of the example screen: the reset state after these writes.
use Rattle.std.specs.Prelude.{ℕ, zero, suc, ◌+◌, ◌*◌, ◌%◌}
use Rattle.state.specs.declared.State.{State}
use Rattle.state.specs.Reset.{reset_state}
use Rattle.registers.specs.Registers.{write_port}
use Rattle.spectrum_colours.specs.Colours.{after_write, zx_colour, ula_painted}

-- $40 and $41: two colours at index 1 of each of n palette offsets
unfoldable pub tile_painted : State → ℕ → State
tile_painted s zero = s
tile_painted s (suc n) = after_write (after_write (after_write (tile_painted s n) 0x40 (n * 16 + 1)) 0x41 (zx_colour (n % 7 + 9))) 0x41 0xFF

-- $6B: tilemap on; $6E and $6F: map from 0, definitions from 4,096
abbrev pub tilemap_set : State → State
tilemap_set s = after_write (after_write (after_write s 0x6B 0x80) 0x6E 0) 0x6F 16

-- $14 out of the way, the colours, $43 to the tilemap's palette, the tilemap, and a blue border
unfoldable pub example_state : State
example_state =
    (write_port (tilemap_set (tile_painted (after_write (ula_painted (after_write reset_state 0x14 1) 32) 0x43 0x30) 8)) 0xFE 1).state
