-- One palette offset more: a turn of the painting loop.
use Prim.Native.Nat.{ℕ, ◌+◌, ◌*◌, ◌%◌}
use mathlib.Core.Path.{◌≡◌}
use native.Mathlib.Numerals.{add-one}
use Rattle.state.specs.declared.State.{State}
use Rattle.spectrum_colours.specs.Colours.{after_write, zx_colour}
use Rattle.example_screen.specs.Written.{tile_painted}

pub tile-more : (s : State) (n : ℕ)
    → tile_painted s (n + 1) ≡ after_write (after_write (after_write (tile_painted s n) 0x40 (n * 16 + 1)) 0x41 (zx_colour (n % 7 + 9))) 0x41 0xFF
unfolding tile_painted
tile-more s n = rw add-one
