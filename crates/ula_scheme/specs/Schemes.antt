-- Rules 4.13 to 4.17: which of the three rules colours a state, and the numbers that it goes by.
use Rattle.std.specs.Prelude.{ℕ, ◌/◌, ◌%◌, cond, eqb}
use Rattle.colour.specs.Bytes.{widened}
use Rattle.state_bits.specs.Bits.{next_on}
use Rattle.state.specs.declared.Ula.{Ula}
use Rattle.state.specs.declared.Palette.{Palette}
use Rattle.state.specs.declared.Ports.{Ports}
use Rattle.ula_scheme.specs.declared.schemes.Scheme.{Scheme}
use Rattle.ula_scheme.specs.declared.schemes.Scheme.TheVariants.{Plain, Next, Plus}
use Rattle.ula_scheme.specs.declared.schemes.Colours.{Colours}

-- ULANext, ULAplus, or plain where neither is on (both on is refused)
unfoldable pub scheme_of : Palette → Ports → Scheme
scheme_of p ports = cond (next_on p) Next (cond ports.plus Plus Plain)

-- ink and paper change places where frame div 16 is odd; the fallback is widened as $41
unfoldable pub colours_of : Ula → Palette → Ports → ℕ → Colours
colours_of u p ports frame = record {
  scheme = scheme_of p ports;
  mask = p.mask;
  swap = eqb (frame / 16 % 2) 1;
  fallback = widened u.fallback;
  transparent = u.transparent;
}
