-- What an entry shows is within bounds: its pixels always, and its high byte, with the index, where the bank holds bytes.
use Prim.Native.Nat.{ℕ, ◌+◌, ◌/◌, ◌%◌, ◌<◌}
use mathlib.Core.List.{List}
use mathlib.Core.Bool.{Bool, true, false, cond}
use native.Mathlib.Omega.{arith}
use lib.ListN.{get_or}
use lib.Dec.{eqb}
use Rattle.tilemap_entries.specs.declared.entries.TileSetup.{TileSetup}
use Rattle.tilemap_entries.specs.declared.entries.Entry.{Entry}
use Rattle.tilemap_entries.specs.Entries.{tx_of, ty_of, cell_of, fetched, entry_address, high_of, entry_at, tile_entry}
use Rattle.tilemap_turns.specs.Turns.{half_of}
use Rattle.tilemap_rule.specs.Index.{pixel_at, entry_pixel, tile_index}
use Rattle.tilemap_entries.specs.Bounds.{SetupBounds}

-- a choice of two that are below m
below : (b : Bool) (x y m : ℕ) → x < m → y < m → cond b x y < m
below true x y m h g = h
below false x y m h g = g

pub half-below : (x byte : ℕ) → half_of x byte < 16
unfolding half_of
half-below x byte = below (eqb (x % 2) 0) (byte / 16 % 16) (byte % 16) 16 (omega arith) (omega arith)

pixel-below : (t : TileSetup) (bank : List ℕ) (e : Entry) (x y : ℕ) → entry_pixel t bank e x y < 16
unfolding entry_pixel pixel_at
pixel-below t bank e x y = half-below _ _

module _ (t : TileSetup) (bank : List ℕ) (l : SetupBounds t) (h : (i : ℕ) → get_or bank i 0 < 256) where
  high-below : (cell : ℕ) → (entry_at t bank cell).high < 256
  unfolding entry_at high_of fetched
  high-below cell = below t.single t.attribute (get_or bank ((entry_address t cell + 1) % 16384) 0) 256 l.attribute (h ((entry_address t cell + 1) % 16384))

  pub index_below : (x y : ℕ) → tile_index t bank x y < 256
  unfolding tile_index
  index_below x y =
      let e = tile_entry t bank x y in
      omega (arith, high-below (cell_of t.columns80 (tx_of t x) (ty_of t y)), pixel-below t bank e (tx_of t x % 8) (ty_of t y % 8))
