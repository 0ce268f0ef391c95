-- A lawful state is one whose fields each keep their bound: the test of the whole is taken apart into the bounds, one by one, and
-- put together from them.
use mathlib.Core.Path.{◌≡◌}
use mathlib.Core.List.{List, [], ◌∷◌}
use mathlib.Core.Bool.{Bool, true}
use Rattle.lists.proofs.Chain.{chain, AllTrue, chain-apart, chain-join}
use Rattle.state.specs.declared.State.{State}
use Rattle.register_bounds.specs.Bounds.{offset_yfits, ula_control_fits, is_mask, is_choice, half_fits, tile_transparent_fits, tile_control_fits, x_high_fits, base_fits, turn_fits, border_fits, select_fits}
use Rattle.state.specs.Lawful.{lawful_ula, lawful_palette, lawful_tiles, lawful_turns, lawful_ports, all_colours, lawful_state}

pub record Kept (s : State) : Type 0 where
  pub ulay : offset_yfits s.ula.y ≡ true
  pub loresy : offset_yfits s.ula.loresy ≡ true
  pub ulacontrol : ula_control_fits s.ula.control ≡ true
  pub mask : is_mask s.palette.mask ≡ true
  pub choice : is_choice s.palette.control ≡ true
  pub half : half_fits s.palette.held s.palette.half ≡ true
  pub tiletransparent : tile_transparent_fits s.tiles.transparent ≡ true
  pub tilecontrol : tile_control_fits s.tiles.control ≡ true
  pub xhigh : x_high_fits s.tiles.xhigh ≡ true
  pub map : base_fits s.tiles.map ≡ true
  pub definitions : base_fits s.tiles.definitions ≡ true
  pub ulaturn : turn_fits s.turns.ula ≡ true
  pub tileturn : turn_fits s.turns.tiles ≡ true
  pub border : border_fits s.ports.border ≡ true
  pub select : select_fits s.ports.select ≡ true
  pub ulafirst : all_colours s.ulafirst ≡ true
  pub ulasecond : all_colours s.ulasecond ≡ true
  pub tilefirst : all_colours s.tilefirst ≡ true
  pub tilesecond : all_colours s.tilesecond ≡ true

module _ (s : State) where
  abbrev pub groups : List Bool
  groups = lawful_palette s.palette ∷ lawful_tiles s.tiles ∷ lawful_turns s.turns ∷ lawful_ports s.ports ∷ []

  abbrev pub colours : List Bool
  colours = all_colours s.ulafirst ∷ all_colours s.ulasecond ∷ all_colours s.tilefirst ∷ all_colours s.tilesecond ∷ []

  abbrev in_ula : List Bool
  in_ula = offset_yfits s.ula.loresy ∷ ula_control_fits s.ula.control ∷ []

  abbrev in_palette : List Bool
  in_palette = is_choice s.palette.control ∷ half_fits s.palette.held s.palette.half ∷ []

  abbrev in_tiles : List Bool
  in_tiles = tile_control_fits s.tiles.control ∷ x_high_fits s.tiles.xhigh ∷ base_fits s.tiles.map ∷ base_fits s.tiles.definitions ∷ []

  pub lawful-kept : lawful_state s ≡ true → Kept s
  unfolding lawful_state
  lawful-kept e =
      let all : (chain (lawful_ula s.ula) groups ≡ true) × AllTrue colours = chain-apart (chain (lawful_ula s.ula) groups) colours e in
      let g : (lawful_ula s.ula ≡ true) × AllTrue groups = chain-apart (lawful_ula s.ula) groups all.0 in
      let u = chain-apart (offset_yfits s.ula.y) in_ula g.0 in
      let p = chain-apart (is_mask s.palette.mask) in_palette g.1.0 in
      let t = chain-apart (tile_transparent_fits s.tiles.transparent) in_tiles g.1.1.0 in
      let r = chain-apart (turn_fits s.turns.ula) (turn_fits s.turns.tiles ∷ []) g.1.1.1.0 in
      let o = chain-apart (border_fits s.ports.border) (select_fits s.ports.select ∷ []) g.1.1.1.1.0 in
      let c = all.1 in
      record {
        ulay = u.0;
        loresy = u.1.0;
        ulacontrol = u.1.1.0;
        mask = p.0;
        choice = p.1.0;
        half = p.1.1.0;
        tiletransparent = t.0;
        tilecontrol = t.1.0;
        xhigh = t.1.1.0;
        map = t.1.1.1.0;
        definitions = t.1.1.1.1.0;
        ulaturn = r.0;
        tileturn = r.1.0;
        border = o.0;
        select = o.1.0;
        ulafirst = c.0;
        ulasecond = c.1.0;
        tilefirst = c.1.1.0;
        tilesecond = c.1.1.1.0;
      }

  pub kept-lawful : Kept s → lawful_state s ≡ true
  unfolding lawful_state
  kept-lawful k =
      let u : lawful_ula s.ula ≡ true = chain-join (offset_yfits s.ula.y) in_ula k.ulay (k.loresy, (k.ulacontrol, tt)) in
      let p : lawful_palette s.palette ≡ true = chain-join (is_mask s.palette.mask) in_palette k.mask (k.choice, (k.half, tt)) in
      let t : lawful_tiles s.tiles ≡ true =
      chain-join (tile_transparent_fits s.tiles.transparent) in_tiles k.tiletransparent (k.tilecontrol, (k.xhigh, (k.map, (k.definitions, tt)))) in
      let r : lawful_turns s.turns ≡ true = chain-join (turn_fits s.turns.ula) (turn_fits s.turns.tiles ∷ []) k.ulaturn (k.tileturn, tt) in
      let o : lawful_ports s.ports ≡ true = chain-join (border_fits s.ports.border) (select_fits s.ports.select ∷ []) k.border (k.select, tt) in
      chain-join (chain (lawful_ula s.ula) groups) colours (chain-join (lawful_ula s.ula) groups u (p, (t, (r, (o, tt)))))
      (k.ulafirst, (k.ulasecond, (k.tilefirst, (k.tilesecond, tt))))
