-- What callers need of the numbers of a line.
use Rattle.std.specs.Prelude.{◌≡◌, true}
use Rattle.register_bounds.specs.Bounds.{is_mask}
use Rattle.ula_scheme.specs.declared.schemes.Colours.{Colours}

-- the mask is one of the eight
pub record MaskBounds (l : Colours) : Type 0 where
  pub mask : is_mask l.mask ≡ true
