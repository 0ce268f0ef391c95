-- Rules 3.24, 5.10 and 12.5: what of the state a line of the tilemap shows.
use Rattle.std.specs.Prelude.{ℕ, ◌+◌, ◌*◌, List, Bool, ◌&&◌, get_or}
use Rattle.surface.specs.Dots.{inside}
use Rattle.surface.specs.declared.lines.LineNumber.{LineNumber}
use Rattle.state.specs.declared.Tiles.{Tiles}
use Rattle.state_bits.specs.Bits.{tilemap_on, columns80, one_byte_entries, x_offset}
use Rattle.tilemap_entries.specs.declared.entries.TileSetup.{TileSetup}
use Rattle.tilemap_setup.specs.declared.setup.PairCount.{PairCount}
use Rattle.tilemap_setup.specs.declared.setup.Window.{Window}

-- $6B, $6C, $6E, $6F, $2F with $30, and $31; whether the ULA is on
unfoldable pub setup_of : Tiles → Bool → TileSetup
setup_of t on = record {
  columns80 = columns80 t;
  single = one_byte_entries t;
  attribute = t.attribute;
  ula = on;
  map = t.map * 256;
  definitions = t.definitions * 256;
  x = x_offset t;
  y = t.y;
}

-- a pair of pixels starts at twice its number
abbrev pub first_pixel : PairCount → ℕ
first_pixel p = p.0 * 2

-- the clip is X1, X2, Y1, Y2: X counts pairs of pixels, Y counts lines, both ends are inside; $6B bit 7 is tilemap on
unfoldable pub window_of : Tiles → List ℕ → LineNumber → Window
window_of t clip l = record {
  on = tilemap_on t && inside l.0 (get_or clip 2 0) (get_or clip 3 0);
  left = first_pixel (record { 0 = get_or clip 0 0 });
  right = first_pixel (record { 0 = get_or clip 1 0 }) + 1;
}
