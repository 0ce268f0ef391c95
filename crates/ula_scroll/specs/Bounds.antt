-- Bounds that callers need of a scroll.
use Rattle.std.specs.Prelude.{◌<◌}
use Rattle.ula_scroll.specs.declared.scrolls.Scroll.{Scroll}

-- both offsets are bytes
pub record ScrollBounds (s : Scroll) : Type 0 where
  pub x : s.x < 256
  pub y : s.y < 256
