-- What a reading of the tilemap's registers tells; no part of what a record is.
use Rattle.std.specs.Prelude.{◌≡◌, List, ℕ}
use Rattle.state.specs.declared.Tiles.{Tiles}
use Rattle.record_layout.specs.declared.Version.{Version}
use Rattle.record_layout.specs.Record.{state_as}

-- they are those of the state in the bytes, whichever version these are read in
abbrev pub TilesIn : List ℕ → Tiles → Type 0
TilesIn b t = (v : Version) → t ≡ (state_as v b).tiles
