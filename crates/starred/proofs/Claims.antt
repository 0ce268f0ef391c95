-- The starred samples are computed.
use mathlib.Core.Path.{refl}
use Rattle.colour.specs.Bytes.{widened}
use Rattle.ula_byte.specs.Bytes.{lores_address}
use Rattle.tilemap_turns.specs.Turns.{column_of, row_of}
use Rattle.starred.specs.Claims.{StarredSamples}

pub starred_samples : StarredSamples
unfolding widened lores_address column_of row_of
starred_samples = refl
