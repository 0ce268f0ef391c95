-- One colour more: a turn of the painting loop.
use Prim.Native.Nat.{ℕ, ◌+◌}
use mathlib.Core.Path.{◌≡◌}
use native.Mathlib.Numerals.{add-one}
use Rattle.state.specs.declared.State.{State}
use Rattle.spectrum_colours.specs.Colours.{after_write, zx_colour, ula_painted}

pub ula-more : (s : State) (n : ℕ) → ula_painted s (n + 1) ≡ after_write (ula_painted s n) 0x41 (zx_colour n)
unfolding ula_painted
ula-more s n = rw add-one
