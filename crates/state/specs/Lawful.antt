-- Rules 3.31 and 9.4: when a state is lawful. A field that is not named here may hold any byte.
use Rattle.std.specs.Prelude.{ℕ, List, [], ◌∷◌, Bool, true, cond, ◌&&◌}
use Rattle.reply.specs.declared.Reply.{Reply}
use Rattle.reply.specs.declared.Reply.TheVariants.{Done, NotLawful}
use Rattle.state.specs.declared.State.{State}
use Rattle.state.specs.declared.Ula.{Ula}
use Rattle.state.specs.declared.Tiles.{Tiles}
use Rattle.state.specs.declared.Palette.{Palette}
use Rattle.state.specs.declared.Turns.{Turns}
use Rattle.state.specs.declared.Ports.{Ports}
use Rattle.register_bounds.specs.Bounds.{offset_yfits, ula_control_fits, is_mask, is_choice, half_fits, tile_transparent_fits, tile_control_fits, x_high_fits, base_fits, turn_fits, border_fits, select_fits, colour_fits}

-- $27, $33, $68
abbrev pub lawful_ula : Ula → Bool
lawful_ula u = offset_yfits u.y && offset_yfits u.loresy && ula_control_fits u.control

-- $42, $43, and a held byte
abbrev pub lawful_palette : Palette → Bool
lawful_palette p = is_mask p.mask && is_choice p.control && half_fits p.held p.half

-- $4C, $6B, $2F, $6E, $6F
abbrev pub lawful_tiles : Tiles → Bool
lawful_tiles t = tile_transparent_fits t.transparent && tile_control_fits t.control && x_high_fits t.xhigh && base_fits t.map && base_fits t.definitions

abbrev pub lawful_turns : Turns → Bool
lawful_turns t = turn_fits t.ula && turn_fits t.tiles

-- the border, $BF3B
abbrev pub lawful_ports : Ports → Bool
lawful_ports p = border_fits p.border && select_fits p.select

abbrev pub all_colours : List ℕ → Bool
all_colours [] = true
all_colours (x ∷ xs) = colour_fits x && all_colours xs

unfoldable pub lawful_state : State → Bool
lawful_state s =
    (lawful_ula s.ula && lawful_palette s.palette && lawful_tiles s.tiles && lawful_turns s.turns && lawful_ports s.ports)
    && all_colours s.ulafirst && all_colours s.ulasecond && all_colours s.tilefirst && all_colours s.tilesecond

-- the refusal of a state that is not lawful
abbrev pub lawful_reply : State → Reply
lawful_reply s = cond (lawful_state s) Done NotLawful
