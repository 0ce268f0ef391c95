-- What keeps the types of a state: a store of a number below the bound keeps an array's, a byte in one field a group's, and a
-- typed group or array in the place of its own a state's.
use mathlib.Core.Path.{refl, ◌∙◌}
use mathlib.Core.List.{List, [], ◌∷◌}
use mathlib.Core.Bool.{Bool}
use Prim.Native.Nat.{ℕ, zero, suc, ◌<◌}
use lib.Dec.{lit<}
use lib.ListN.{set, get_or, replicate, length-set, length-replicate}
use native.Mathlib.Omega.{arith}
use Rattle.state.specs.declared.State.{State}
use Rattle.state.specs.declared.Ula.{Ula}
use Rattle.state.specs.declared.Tiles.{Tiles}
use Rattle.state.specs.declared.Palette.{Palette}
use Rattle.state.specs.declared.Turns.{Turns}
use Rattle.state.specs.declared.Ports.{Ports}
use Rattle.state.specs.Typed.{Numbers, UlaTyped, TilesTyped, PaletteTyped, TurnsTyped, PortsTyped, Typed}
use Rattle.state.specs.Groups.{ula_with_transparent, ula_with_layers, ula_with_peripheral, ula_with_fallback, ula_with_control, ula_with_x, ula_with_y, ula_with_lores_x, ula_with_lores_y, tiles_with_transparent, tiles_with_control, tiles_with_attribute, tiles_with_xhigh, tiles_with_xlow, tiles_with_y, tiles_with_map, tiles_with_definitions, palette_with_control, palette_with_index, palette_with_mask, palette_with_half, palette_without_half, turns_with_ula, turns_with_tiles, ports_with_border, ports_with_timex, ports_with_select, ports_with_plus}
use Rattle.state.specs.With.{with_ula, with_tiles, with_palette, with_turns, with_ports, with_frame, with_ula_clip, with_tile_clip, with_plus, with_ula_first, with_ula_second, with_tile_first, with_tile_second}

-- ---- arrays

below_set : (xs : List ℕ) (i v b : ℕ) → v < b → ((k : ℕ) → get_or xs k 0 < b) → (k : ℕ) → get_or (set xs i v) k 0 < b
below_set [] i v b l h k = h k
below_set (x ∷ xs) zero v b l h zero = l
below_set (x ∷ xs) zero v b l h (suc k) = h (suc k)
below_set (x ∷ xs) (suc i) v b l h zero = h zero
below_set (x ∷ xs) (suc i) v b l h (suc k) = below_set xs i v b l (λ j. h (suc j)) k

pub numbers-set : {n b : ℕ} {xs : List ℕ} (i v : ℕ) → v < b → Numbers n b xs → Numbers n b (set xs i v)
numbers-set {n} {b} {xs} i v l h = record { long = length-set xs i v ∙ h.long; below = below_set xs i v b l h.below }

below-zeros : (n b : ℕ) → 0 < b → (k : ℕ) → get_or (replicate n 0) k 0 < b
below-zeros zero b l k = l
below-zeros (suc n) b l zero = l
below-zeros (suc n) b l (suc k) = below-zeros n b l k

pub numbers-zeros : (n b : ℕ) → 0 < b → Numbers n b (replicate n 0)
numbers-zeros n b l = record { long = length-replicate n 0; below = below-zeros n b l }

-- four numbers, each by itself
pub numbers-four : (b w x y z : ℕ) → w < b → x < b → y < b → z < b → Numbers 4 b (w ∷ x ∷ y ∷ z ∷ [])
numbers-four b w x y z lw lx ly lz = record { long = refl; below = below-four }
  where
    below-four : (k : ℕ) → get_or (w ∷ x ∷ y ∷ z ∷ []) k 0 < b
    below-four zero = lw
    below-four (suc zero) = lx
    below-four (suc (suc zero)) = ly
    below-four (suc (suc (suc zero))) = lz
    below-four (suc (suc (suc (suc k)))) = omega arith

-- ---- a byte in one field of the ULA's registers

module _ (u : Ula) (v : ℕ) (b : v < 256) (t : UlaTyped u) where
  pub ula-transparent : UlaTyped (ula_with_transparent u v)
  ula-transparent = record { transparent = b; layers = t.layers; peripheral = t.peripheral; fallback = t.fallback; control = t.control; x = t.x; y = t.y; loresx = t.loresx; loresy = t.loresy }

  pub ula-layers : UlaTyped (ula_with_layers u v)
  ula-layers = record { transparent = t.transparent; layers = b; peripheral = t.peripheral; fallback = t.fallback; control = t.control; x = t.x; y = t.y; loresx = t.loresx; loresy = t.loresy }

  pub ula-peripheral : UlaTyped (ula_with_peripheral u v)
  ula-peripheral = record { transparent = t.transparent; layers = t.layers; peripheral = b; fallback = t.fallback; control = t.control; x = t.x; y = t.y; loresx = t.loresx; loresy = t.loresy }

  pub ula-fallback : UlaTyped (ula_with_fallback u v)
  ula-fallback = record { transparent = t.transparent; layers = t.layers; peripheral = t.peripheral; fallback = b; control = t.control; x = t.x; y = t.y; loresx = t.loresx; loresy = t.loresy }

  pub ula-control : UlaTyped (ula_with_control u v)
  ula-control = record { transparent = t.transparent; layers = t.layers; peripheral = t.peripheral; fallback = t.fallback; control = b; x = t.x; y = t.y; loresx = t.loresx; loresy = t.loresy }

  pub ula-x : UlaTyped (ula_with_x u v)
  ula-x = record { transparent = t.transparent; layers = t.layers; peripheral = t.peripheral; fallback = t.fallback; control = t.control; x = b; y = t.y; loresx = t.loresx; loresy = t.loresy }

  pub ula-y : UlaTyped (ula_with_y u v)
  ula-y = record { transparent = t.transparent; layers = t.layers; peripheral = t.peripheral; fallback = t.fallback; control = t.control; x = t.x; y = b; loresx = t.loresx; loresy = t.loresy }

  pub ula-loresx : UlaTyped (ula_with_lores_x u v)
  ula-loresx = record { transparent = t.transparent; layers = t.layers; peripheral = t.peripheral; fallback = t.fallback; control = t.control; x = t.x; y = t.y; loresx = b; loresy = t.loresy }

  pub ula-loresy : UlaTyped (ula_with_lores_y u v)
  ula-loresy = record { transparent = t.transparent; layers = t.layers; peripheral = t.peripheral; fallback = t.fallback; control = t.control; x = t.x; y = t.y; loresx = t.loresx; loresy = b }

-- ---- a byte in one field of the tilemap's registers

module _ (r : Tiles) (v : ℕ) (b : v < 256) (t : TilesTyped r) where
  pub tiles-transparent : TilesTyped (tiles_with_transparent r v)
  tiles-transparent = record { transparent = b; control = t.control; attribute = t.attribute; xhigh = t.xhigh; xlow = t.xlow; y = t.y; map = t.map; definitions = t.definitions }

  pub tiles-control : TilesTyped (tiles_with_control r v)
  tiles-control = record { transparent = t.transparent; control = b; attribute = t.attribute; xhigh = t.xhigh; xlow = t.xlow; y = t.y; map = t.map; definitions = t.definitions }

  pub tiles-attribute : TilesTyped (tiles_with_attribute r v)
  tiles-attribute = record { transparent = t.transparent; control = t.control; attribute = b; xhigh = t.xhigh; xlow = t.xlow; y = t.y; map = t.map; definitions = t.definitions }

  pub tiles-xhigh : TilesTyped (tiles_with_xhigh r v)
  tiles-xhigh = record { transparent = t.transparent; control = t.control; attribute = t.attribute; xhigh = b; xlow = t.xlow; y = t.y; map = t.map; definitions = t.definitions }

  pub tiles-xlow : TilesTyped (tiles_with_xlow r v)
  tiles-xlow = record { transparent = t.transparent; control = t.control; attribute = t.attribute; xhigh = t.xhigh; xlow = b; y = t.y; map = t.map; definitions = t.definitions }

  pub tiles-y : TilesTyped (tiles_with_y r v)
  tiles-y = record { transparent = t.transparent; control = t.control; attribute = t.attribute; xhigh = t.xhigh; xlow = t.xlow; y = b; map = t.map; definitions = t.definitions }

  pub tiles-map : TilesTyped (tiles_with_map r v)
  tiles-map = record { transparent = t.transparent; control = t.control; attribute = t.attribute; xhigh = t.xhigh; xlow = t.xlow; y = t.y; map = b; definitions = t.definitions }

  pub tiles-definitions : TilesTyped (tiles_with_definitions r v)
  tiles-definitions = record { transparent = t.transparent; control = t.control; attribute = t.attribute; xhigh = t.xhigh; xlow = t.xlow; y = t.y; map = t.map; definitions = b }

-- ---- a byte in one field of the palette's registers

module _ (p : Palette) (v : ℕ) (b : v < 256) (t : PaletteTyped p) where
  pub palette-control : PaletteTyped (palette_with_control p v)
  palette-control = record { control = b; index = t.index; mask = t.mask; half = t.half }

  pub palette-index : PaletteTyped (palette_with_index p v)
  palette-index = record { control = t.control; index = b; mask = t.mask; half = t.half }

  pub palette-mask : PaletteTyped (palette_with_mask p v)
  palette-mask = record { control = t.control; index = t.index; mask = b; half = t.half }

  pub palette-half : PaletteTyped (palette_with_half p v)
  palette-half = record { control = t.control; index = t.index; mask = t.mask; half = b }

pub palette-without-half : (p : Palette) → PaletteTyped p → PaletteTyped (palette_without_half p)
palette-without-half p t = record { control = t.control; index = t.index; mask = t.mask; half = lit< tt }

-- ---- a byte in one field of the turns

module _ (r : Turns) (v : ℕ) (b : v < 256) (t : TurnsTyped r) where
  pub turns-ula : TurnsTyped (turns_with_ula r v)
  turns-ula = record { ula = b; tiles = t.tiles }

  pub turns-tiles : TurnsTyped (turns_with_tiles r v)
  turns-tiles = record { ula = t.ula; tiles = b }

-- ---- a byte in one field of the ports

module _ (o : Ports) (v : ℕ) (b : v < 256) (t : PortsTyped o) where
  pub ports-border : PortsTyped (ports_with_border o v)
  ports-border = record { border = b; timex = t.timex; select = t.select }

  pub ports-timex : PortsTyped (ports_with_timex o v)
  ports-timex = record { border = t.border; timex = b; select = t.select }

  pub ports-select : PortsTyped (ports_with_select o v)
  ports-select = record { border = t.border; timex = t.timex; select = b }

pub ports-plus : (o : Ports) (on : Bool) → PortsTyped o → PortsTyped (ports_with_plus o on)
ports-plus o on t = record { border = t.border; timex = t.timex; select = t.select }

-- ---- a group or an array of a state

module _ (s : State) (t : Typed s) where
  pub with-ula : (u : Ula) → UlaTyped u → Typed (with_ula s u)
  with-ula u g = record { ula = g; tiles = t.tiles; palette = t.palette; turns = t.turns; ports = t.ports; frame = t.frame; ulaclip = t.ulaclip; tileclip = t.tileclip; plus = t.plus; ulafirst = t.ulafirst; ulasecond = t.ulasecond; tilefirst = t.tilefirst; tilesecond = t.tilesecond }

  pub with-tiles : (r : Tiles) → TilesTyped r → Typed (with_tiles s r)
  with-tiles r g = record { ula = t.ula; tiles = g; palette = t.palette; turns = t.turns; ports = t.ports; frame = t.frame; ulaclip = t.ulaclip; tileclip = t.tileclip; plus = t.plus; ulafirst = t.ulafirst; ulasecond = t.ulasecond; tilefirst = t.tilefirst; tilesecond = t.tilesecond }

  pub with-palette : (p : Palette) → PaletteTyped p → Typed (with_palette s p)
  with-palette p g = record { ula = t.ula; tiles = t.tiles; palette = g; turns = t.turns; ports = t.ports; frame = t.frame; ulaclip = t.ulaclip; tileclip = t.tileclip; plus = t.plus; ulafirst = t.ulafirst; ulasecond = t.ulasecond; tilefirst = t.tilefirst; tilesecond = t.tilesecond }

  pub with-turns : (r : Turns) → TurnsTyped r → Typed (with_turns s r)
  with-turns r g = record { ula = t.ula; tiles = t.tiles; palette = t.palette; turns = g; ports = t.ports; frame = t.frame; ulaclip = t.ulaclip; tileclip = t.tileclip; plus = t.plus; ulafirst = t.ulafirst; ulasecond = t.ulasecond; tilefirst = t.tilefirst; tilesecond = t.tilesecond }

  pub with-ports : (o : Ports) → PortsTyped o → Typed (with_ports s o)
  with-ports o g = record { ula = t.ula; tiles = t.tiles; palette = t.palette; turns = t.turns; ports = g; frame = t.frame; ulaclip = t.ulaclip; tileclip = t.tileclip; plus = t.plus; ulafirst = t.ulafirst; ulasecond = t.ulasecond; tilefirst = t.tilefirst; tilesecond = t.tilesecond }

  pub with-frame : (n : ℕ) → n < 256 → Typed (with_frame s n)
  with-frame n g = record { ula = t.ula; tiles = t.tiles; palette = t.palette; turns = t.turns; ports = t.ports; frame = g; ulaclip = t.ulaclip; tileclip = t.tileclip; plus = t.plus; ulafirst = t.ulafirst; ulasecond = t.ulasecond; tilefirst = t.tilefirst; tilesecond = t.tilesecond }

  pub with-ulaclip : (l : List ℕ) → Numbers 4 256 l → Typed (with_ula_clip s l)
  with-ulaclip l g = record { ula = t.ula; tiles = t.tiles; palette = t.palette; turns = t.turns; ports = t.ports; frame = t.frame; ulaclip = g; tileclip = t.tileclip; plus = t.plus; ulafirst = t.ulafirst; ulasecond = t.ulasecond; tilefirst = t.tilefirst; tilesecond = t.tilesecond }

  pub with-tileclip : (l : List ℕ) → Numbers 4 256 l → Typed (with_tile_clip s l)
  with-tileclip l g = record { ula = t.ula; tiles = t.tiles; palette = t.palette; turns = t.turns; ports = t.ports; frame = t.frame; ulaclip = t.ulaclip; tileclip = g; plus = t.plus; ulafirst = t.ulafirst; ulasecond = t.ulasecond; tilefirst = t.tilefirst; tilesecond = t.tilesecond }

  pub with-plus : (l : List ℕ) → Numbers 64 256 l → Typed (with_plus s l)
  with-plus l g = record { ula = t.ula; tiles = t.tiles; palette = t.palette; turns = t.turns; ports = t.ports; frame = t.frame; ulaclip = t.ulaclip; tileclip = t.tileclip; plus = g; ulafirst = t.ulafirst; ulasecond = t.ulasecond; tilefirst = t.tilefirst; tilesecond = t.tilesecond }

  pub with-ulafirst : (l : List ℕ) → Numbers 256 65536 l → Typed (with_ula_first s l)
  with-ulafirst l g = record { ula = t.ula; tiles = t.tiles; palette = t.palette; turns = t.turns; ports = t.ports; frame = t.frame; ulaclip = t.ulaclip; tileclip = t.tileclip; plus = t.plus; ulafirst = g; ulasecond = t.ulasecond; tilefirst = t.tilefirst; tilesecond = t.tilesecond }

  pub with-ulasecond : (l : List ℕ) → Numbers 256 65536 l → Typed (with_ula_second s l)
  with-ulasecond l g = record { ula = t.ula; tiles = t.tiles; palette = t.palette; turns = t.turns; ports = t.ports; frame = t.frame; ulaclip = t.ulaclip; tileclip = t.tileclip; plus = t.plus; ulafirst = t.ulafirst; ulasecond = g; tilefirst = t.tilefirst; tilesecond = t.tilesecond }

  pub with-tilefirst : (l : List ℕ) → Numbers 256 65536 l → Typed (with_tile_first s l)
  with-tilefirst l g = record { ula = t.ula; tiles = t.tiles; palette = t.palette; turns = t.turns; ports = t.ports; frame = t.frame; ulaclip = t.ulaclip; tileclip = t.tileclip; plus = t.plus; ulafirst = t.ulafirst; ulasecond = t.ulasecond; tilefirst = g; tilesecond = t.tilesecond }

  pub with-tilesecond : (l : List ℕ) → Numbers 256 65536 l → Typed (with_tile_second s l)
  with-tilesecond l g = record { ula = t.ula; tiles = t.tiles; palette = t.palette; turns = t.turns; ports = t.ports; frame = t.frame; ulaclip = t.ulaclip; tileclip = t.tileclip; plus = t.plus; ulafirst = t.ulafirst; ulasecond = t.ulasecond; tilefirst = t.tilefirst; tilesecond = g }
