-- The bounds under which the tilemap's functions run; no part of what a dot is.
use Rattle.std.specs.Prelude.{◌<◌}
use Rattle.tilemap_entries.specs.declared.entries.TileSetup.{TileSetup}
use Rattle.tilemap_entries.specs.declared.entries.Entry.{Entry}

-- a setup that a lawful state gives
pub record SetupBounds (t : TileSetup) : Type 0 where
  pub attribute : t.attribute < 256
  pub map : t.map < 16384
  pub definitions : t.definitions < 16384
  pub x : t.x < 1024
  pub y : t.y < 256

-- an entry's two bytes
pub record EntryBounds (e : Entry) : Type 0 where
  pub low : e.low < 256
  pub high : e.high < 256
