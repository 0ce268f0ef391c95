-- Rules 7.2 and 7.3: a record's parts in their order, each with its bound of section 3.
use Rattle.std.specs.Prelude.{ℕ, List, [], ◌∷◌, ◌++◌, Bool, true, leb, eqb}
use Rattle.state.specs.declared.State.{State}
use Rattle.register_bounds.specs.Bounds.{offset_yfits, is_mask, is_choice, half_fits, tile_transparent_fits, ula_control_fits, tile_control_fits, x_high_fits, base_fits, turn_fits, border_fits, select_fits, colour_fits}
use Rattle.state.specs.With.{state_of}
use Rattle.record_layout.specs.Fields.{byte, pair, flag_byte}
use Rattle.record_layout.specs.Parts.{Part, one, row, FromParts}
use Rattle.record_layout.specs.declared.Version.{Version}
use Rattle.record_layout.specs.declared.Version.TheVariants.{Version1, Version2}

-- any byte
abbrev pub any : (State → ℕ) → Part
any field = one (λ before v. true) field

-- a byte with a bound of its own
abbrev pub checked : (ℕ → Bool) → (State → ℕ) → Part
checked bound field = one (λ before v. bound v) field

-- a flag is 0 or 1
abbrev pub is_flag : ℕ → Bool
is_flag v = leb v 1

abbrev pub flag : (State → Bool) → Part
flag field = checked is_flag (λ s. flag_byte (field s))

-- n bytes
abbrev pub bytes : ℕ → (State → List ℕ) → Part
bytes n field = row byte n (λ v. true) field

-- a palette: 256 colours, two bytes a colour
abbrev pub palette : (State → List ℕ) → Part
palette field = row pair 256 colour_fits field

-- the parts up to $33, in their order
abbrev pub before_scrolls : List Part
before_scrolls =
    -- $14
    any (λ s. s.ula.transparent)
    -- $15
    ∷ any (λ s. s.ula.layers)
    -- $08
    ∷ any (λ s. s.ula.peripheral)
    -- $43
    ∷ checked is_choice (λ s. s.palette.control)
    -- $40
    ∷ any (λ s. s.palette.index)
    -- $42
    ∷ checked is_mask (λ s. s.palette.mask)
    -- $4A
    ∷ any (λ s. s.ula.fallback)
    -- $4C
    ∷ checked tile_transparent_fits (λ s. s.tiles.transparent)
    -- $68
    ∷ checked ula_control_fits (λ s. s.ula.control)
    -- $6B
    ∷ checked tile_control_fits (λ s. s.tiles.control)
    -- $6C
    ∷ any (λ s. s.tiles.attribute)
    -- $2F
    ∷ checked x_high_fits (λ s. s.tiles.xhigh)
    -- $30
    ∷ any (λ s. s.tiles.xlow)
    -- $31
    ∷ any (λ s. s.tiles.y)
    -- $6E
    ∷ checked base_fits (λ s. s.tiles.map)
    -- $6F
    ∷ checked base_fits (λ s. s.tiles.definitions)
    -- $32
    ∷ any (λ s. s.ula.loresx)
    -- $33
    ∷ checked offset_yfits (λ s. s.ula.loresy)
    ∷ []

-- then in version 2 the ULA's offsets, $26 and $27
abbrev pub scrolls : Version → List Part
scrolls Version1 = []
scrolls Version2 = any (λ s. s.ula.x) ∷ checked offset_yfits (λ s. s.ula.y) ∷ []

-- the parts after them
abbrev pub after_scrolls : List Part
after_scrolls =
    -- ULA clip
    bytes 4 (λ s. s.ulaclip)
    -- tilemap clip
    ∷ bytes 4 (λ s. s.tileclip)
    -- ULA turn
    ∷ checked turn_fits (λ s. s.turns.ula)
    -- tilemap turn
    ∷ checked turn_fits (λ s. s.turns.tiles)
    -- held
    ∷ flag (λ s. s.palette.held)
    -- held byte: the byte before it says whether one is held
    ∷ one (λ held v. half_fits (eqb held 1) v) (λ s. s.palette.half)
    -- border
    ∷ checked border_fits (λ s. s.ports.border)
    -- $FF
    ∷ any (λ s. s.ports.timex)
    -- $BF3B
    ∷ checked select_fits (λ s. s.ports.select)
    -- ULAplus on
    ∷ flag (λ s. s.ports.plus)
    -- frame
    ∷ any (λ s. s.frame)
    -- 64 registers
    ∷ bytes 64 (λ s. s.plus)
    -- the four palettes
    ∷ palette (λ s. s.ulafirst)
    ∷ palette (λ s. s.ulasecond)
    ∷ palette (λ s. s.tilefirst)
    ∷ palette (λ s. s.tilesecond)
    ∷ []

-- the parts of a version, in their order
abbrev pub layout : Version → List Part
layout v = before_scrolls ++ (scrolls v ++ after_scrolls)

-- the state of what the parts of version 2 hold, in their order
abbrev pub from_parts2 : FromParts (layout Version2)
from_parts2 transparent layers peripheral choice index mask fallback tile control tilemap attribute xhigh xlow tiley map definitions loresx loresy
    x y ulaclip tileclip ulaturn tileturn held half border timex select on frame plus ulafirst ulasecond tilefirst tilesecond =
    state_of
    (record { transparent = transparent; layers = layers; peripheral = peripheral; fallback = fallback; control = control; x = x; y = y; loresx = loresx; loresy = loresy })
    (record { transparent = tile; control = tilemap; attribute = attribute; xhigh = xhigh; xlow = xlow; y = tiley; map = map; definitions = definitions })
    (record { control = choice; index = index; mask = mask; held = eqb held 1; half = half })
    (record { ula = ulaturn; tiles = tileturn })
    (record { border = border; timex = timex; select = select; plus = eqb on 1 })
    frame
    ulaclip tileclip plus ulafirst ulasecond tilefirst tilesecond

-- and of version 1: $26 and $27, which it does not have, are its $32 and $33
abbrev pub from_parts1 : FromParts (layout Version1)
from_parts1 transparent layers peripheral choice index mask fallback tile control tilemap attribute xhigh xlow tiley map definitions loresx loresy =
    from_parts2 transparent layers peripheral choice index mask fallback tile control tilemap attribute xhigh xlow tiley map definitions loresx loresy
    loresx loresy

-- the state of what the parts of a version hold
abbrev pub from_layout : (v : Version) → FromParts (layout v)
from_layout Version1 = from_parts1
from_layout Version2 = from_parts2
