-- A group of registers with one of them replaced: every effect on a group is made of these.
use Rattle.std.specs.Prelude.{ℕ, Bool, true, false}
use Rattle.state.specs.declared.Ula.{Ula}
use Rattle.state.specs.declared.Tiles.{Tiles}
use Rattle.state.specs.declared.Palette.{Palette}
use Rattle.state.specs.declared.Turns.{Turns}
use Rattle.state.specs.declared.Ports.{Ports}

-- $14
abbrev pub ula_with_transparent : Ula → ℕ → Ula
ula_with_transparent u v = record { transparent = v; layers = u.layers; peripheral = u.peripheral; fallback = u.fallback; control = u.control; x = u.x; y = u.y; loresx = u.loresx; loresy = u.loresy }

-- $15
abbrev pub ula_with_layers : Ula → ℕ → Ula
ula_with_layers u v = record { transparent = u.transparent; layers = v; peripheral = u.peripheral; fallback = u.fallback; control = u.control; x = u.x; y = u.y; loresx = u.loresx; loresy = u.loresy }

-- $08
abbrev pub ula_with_peripheral : Ula → ℕ → Ula
ula_with_peripheral u v = record { transparent = u.transparent; layers = u.layers; peripheral = v; fallback = u.fallback; control = u.control; x = u.x; y = u.y; loresx = u.loresx; loresy = u.loresy }

-- $4A
abbrev pub ula_with_fallback : Ula → ℕ → Ula
ula_with_fallback u v = record { transparent = u.transparent; layers = u.layers; peripheral = u.peripheral; fallback = v; control = u.control; x = u.x; y = u.y; loresx = u.loresx; loresy = u.loresy }

-- $68
abbrev pub ula_with_control : Ula → ℕ → Ula
ula_with_control u v = record { transparent = u.transparent; layers = u.layers; peripheral = u.peripheral; fallback = u.fallback; control = v; x = u.x; y = u.y; loresx = u.loresx; loresy = u.loresy }

-- $26
abbrev pub ula_with_x : Ula → ℕ → Ula
ula_with_x u v = record { transparent = u.transparent; layers = u.layers; peripheral = u.peripheral; fallback = u.fallback; control = u.control; x = v; y = u.y; loresx = u.loresx; loresy = u.loresy }

-- $27
abbrev pub ula_with_y : Ula → ℕ → Ula
ula_with_y u v = record { transparent = u.transparent; layers = u.layers; peripheral = u.peripheral; fallback = u.fallback; control = u.control; x = u.x; y = v; loresx = u.loresx; loresy = u.loresy }

-- $32
abbrev pub ula_with_lores_x : Ula → ℕ → Ula
ula_with_lores_x u v = record { transparent = u.transparent; layers = u.layers; peripheral = u.peripheral; fallback = u.fallback; control = u.control; x = u.x; y = u.y; loresx = v; loresy = u.loresy }

-- $33
abbrev pub ula_with_lores_y : Ula → ℕ → Ula
ula_with_lores_y u v = record { transparent = u.transparent; layers = u.layers; peripheral = u.peripheral; fallback = u.fallback; control = u.control; x = u.x; y = u.y; loresx = u.loresx; loresy = v }

-- $4C
abbrev pub tiles_with_transparent : Tiles → ℕ → Tiles
tiles_with_transparent t v = record { transparent = v; control = t.control; attribute = t.attribute; xhigh = t.xhigh; xlow = t.xlow; y = t.y; map = t.map; definitions = t.definitions }

-- $6B
abbrev pub tiles_with_control : Tiles → ℕ → Tiles
tiles_with_control t v = record { transparent = t.transparent; control = v; attribute = t.attribute; xhigh = t.xhigh; xlow = t.xlow; y = t.y; map = t.map; definitions = t.definitions }

-- $6C
abbrev pub tiles_with_attribute : Tiles → ℕ → Tiles
tiles_with_attribute t v = record { transparent = t.transparent; control = t.control; attribute = v; xhigh = t.xhigh; xlow = t.xlow; y = t.y; map = t.map; definitions = t.definitions }

-- $2F
abbrev pub tiles_with_xhigh : Tiles → ℕ → Tiles
tiles_with_xhigh t v = record { transparent = t.transparent; control = t.control; attribute = t.attribute; xhigh = v; xlow = t.xlow; y = t.y; map = t.map; definitions = t.definitions }

-- $30
abbrev pub tiles_with_xlow : Tiles → ℕ → Tiles
tiles_with_xlow t v = record { transparent = t.transparent; control = t.control; attribute = t.attribute; xhigh = t.xhigh; xlow = v; y = t.y; map = t.map; definitions = t.definitions }

-- $31
abbrev pub tiles_with_y : Tiles → ℕ → Tiles
tiles_with_y t v = record { transparent = t.transparent; control = t.control; attribute = t.attribute; xhigh = t.xhigh; xlow = t.xlow; y = v; map = t.map; definitions = t.definitions }

-- $6E
abbrev pub tiles_with_map : Tiles → ℕ → Tiles
tiles_with_map t v = record { transparent = t.transparent; control = t.control; attribute = t.attribute; xhigh = t.xhigh; xlow = t.xlow; y = t.y; map = v; definitions = t.definitions }

-- $6F
abbrev pub tiles_with_definitions : Tiles → ℕ → Tiles
tiles_with_definitions t v = record { transparent = t.transparent; control = t.control; attribute = t.attribute; xhigh = t.xhigh; xlow = t.xlow; y = t.y; map = t.map; definitions = v }

-- $43
abbrev pub palette_with_control : Palette → ℕ → Palette
palette_with_control p v = record { control = v; index = p.index; mask = p.mask; held = p.held; half = p.half }

-- $40
abbrev pub palette_with_index : Palette → ℕ → Palette
palette_with_index p v = record { control = p.control; index = v; mask = p.mask; held = p.held; half = p.half }

-- $42
abbrev pub palette_with_mask : Palette → ℕ → Palette
palette_with_mask p v = record { control = p.control; index = p.index; mask = v; held = p.held; half = p.half }

-- the half of a nine-bit colour held
abbrev pub palette_with_half : Palette → ℕ → Palette
palette_with_half p v = record { control = p.control; index = p.index; mask = p.mask; held = true; half = v }

-- no half held
abbrev pub palette_without_half : Palette → Palette
palette_without_half p = record { control = p.control; index = p.index; mask = p.mask; held = false; half = 0 }

-- the ULA clip's turn
abbrev pub turns_with_ula : Turns → ℕ → Turns
turns_with_ula t v = record { ula = v; tiles = t.tiles }

-- the tilemap clip's turn
abbrev pub turns_with_tiles : Turns → ℕ → Turns
turns_with_tiles t v = record { ula = t.ula; tiles = v }

-- $FE
abbrev pub ports_with_border : Ports → ℕ → Ports
ports_with_border p v = record { border = v; timex = p.timex; select = p.select; plus = p.plus }

-- $FF
abbrev pub ports_with_timex : Ports → ℕ → Ports
ports_with_timex p v = record { border = p.border; timex = v; select = p.select; plus = p.plus }

-- $BF3B
abbrev pub ports_with_select : Ports → ℕ → Ports
ports_with_select p v = record { border = p.border; timex = p.timex; select = v; plus = p.plus }

-- the ULAplus switch
abbrev pub ports_with_plus : Ports → Bool → Ports
ports_with_plus p v = record { border = p.border; timex = p.timex; select = p.select; plus = v }
