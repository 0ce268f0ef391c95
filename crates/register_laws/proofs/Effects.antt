-- Each row of the two tables is sound: a lawful and typed state stays so under it, and a refusal changes nothing.
use mathlib.Core.Path.{◌≡◌, refl}
use mathlib.Core.Bool.{Bool, true, ◌&&◌}
use Prim.Native.Nat.{ℕ, ◌+◌, ◌*◌, ◌/◌, ◌%◌, ◌≤◌, ◌<◌}
use native.Mathlib.Omega.{arith}
use lib.ListN.{set}
use lib.Dec.{leb, eqb}
use borrow.Author.Tests.{le-leb, lt-ltb, leb-true}
use Rattle.lists.proofs.Cond.{either, both, left-true, right-true}
use Rattle.state.specs.declared.State.{State}
use Rattle.state.specs.declared.Ula.{Ula}
use Rattle.state.specs.declared.Tiles.{Tiles}
use Rattle.state.specs.declared.Palette.{Palette}
use Rattle.state.specs.declared.Turns.{Turns}
use Rattle.state.specs.declared.Ports.{Ports}
use Rattle.register_bounds.specs.Bounds.{offset_yfits, ula_control_fits, is_mask, is_choice, half_fits, tile_transparent_fits, tile_control_fits, x_high_fits, base_fits, turn_fits, border_fits, select_fits}
use Rattle.state.specs.Lawful.{lawful_ula, lawful_tiles, lawful_palette, lawful_turns, lawful_ports}
use Rattle.state.specs.Typed.{PaletteTyped, TurnsTyped}
use Rattle.state.specs.Answer.{done}
use Rattle.state.specs.Groups.{ula_with_transparent, ula_with_layers, ula_with_peripheral, ula_with_fallback, ula_with_control, ula_with_x, ula_with_y, ula_with_lores_x, ula_with_lores_y, tiles_with_transparent, tiles_with_control, tiles_with_attribute, tiles_with_xhigh, tiles_with_xlow, tiles_with_y, tiles_with_map, tiles_with_definitions, palette_with_control, palette_with_index, palette_with_mask, palette_with_half, palette_without_half, turns_with_ula, turns_with_tiles, ports_with_border, ports_with_timex, ports_with_select, ports_with_plus}
use Rattle.state.specs.With.{with_turns, with_ula_clip, with_tile_clip, with_plus}
use Rattle.state.proofs.Typed as typed
use Rattle.colour.specs.Bytes.{widened}
use Rattle.colour.proofs.Widened.{widened-most}
use Rattle.register_stored.specs.Stored.{peripheral_written, transparent_written, layers_written, tile_xhigh_written, tile_xlow_written, tile_ywritten, ula_xwritten, ula_ywritten, lores_xwritten, lores_ywritten, fallback_written, tile_transparent_written, ula_control_written, tile_control_written, tile_attribute_written, map_written, definitions_written}
use Rattle.register_clips.specs.Clips.{coordinate, next_turn, ula_clip_written, tile_clip_written, restarted, turns_written}
use Rattle.register_colours.specs.Colours.{palette_at, palette_choice, next_index, colour_stored, colour_put}
use Rattle.register_palettes.specs.Palettes.{index_written, eight_written, mask_written, control_written, nine_first, nine_second, nine_written}
use Rattle.register_ports.specs.Ports.{border_written, timex_written, select_written, mode_group, mode_written, plus_written, port_writes}
use Rattle.register_tables.specs.Tables.{register_writes}
use Rattle.register_laws.specs.Claims.{Each, none, ◌▷◌}
use Rattle.register_laws.proofs.Parts.{Parts, ula-group, tiles-group, palette-group, turns-group, ports-group, set-colours, palette-lawful, palette-typed, with-palette-at}
use Rattle.register_laws.proofs.Rows.{Sound, always, judged, stored, stored-if, chosen}

-- ---- three bounds, each by itself and all together

three-parts : (a b c : Bool) → (a && b && c) ≡ true → (a ≡ true) × (b ≡ true) × (c ≡ true)
three-parts a b c h = let g = left-true (a && b) c h in (left-true a b g, right-true a b g, right-true (a && b) c h)

all_three : (a b c : Bool) → a ≡ true → b ≡ true → c ≡ true → (a && b && c) ≡ true
all_three a b c p q r = rw (p, q, r)

-- ---- the registers of the ULA and LoRes

pub peripheral : Sound peripheral_written
peripheral = stored ula-group ula_with_peripheral (λ u v h. h) typed.ula-peripheral

pub transparent : Sound transparent_written
transparent = stored ula-group ula_with_transparent (λ u v h. h) typed.ula-transparent

pub layers : Sound layers_written
layers = stored ula-group ula_with_layers (λ u v h. h) typed.ula-layers

pub ula-x : Sound ula_xwritten
ula-x = stored ula-group ula_with_x (λ u v h. h) typed.ula-x

pub fallback : Sound fallback_written
fallback = stored ula-group ula_with_fallback (λ u v h. h) typed.ula-fallback

pub lores-x : Sound lores_xwritten
lores-x = stored ula-group ula_with_lores_x (λ u v h. h) typed.ula-loresx

ula-parts : (u : Ula) → lawful_ula u ≡ true
    → (offset_yfits u.y ≡ true) × (offset_yfits u.loresy ≡ true) × (ula_control_fits u.control ≡ true)
ula-parts u h = three-parts (offset_yfits u.y) (offset_yfits u.loresy) (ula_control_fits u.control) h

pub ula-y : Sound ula_ywritten
ula-y = stored-if ula-group offset_yfits ula_with_y (λ u v e h. let q = ula-parts u h in all_three _ _ _ e q.1 q.2) typed.ula-y

pub lores-y : Sound lores_ywritten
lores-y = stored-if ula-group offset_yfits ula_with_lores_y (λ u v e h. let q = ula-parts u h in all_three _ _ _ q.0 e q.2) typed.ula-loresy

pub ula-control : Sound ula_control_written
ula-control =
    stored-if ula-group ula_control_fits ula_with_control (λ u v e h. let q = ula-parts u h in all_three _ _ _ q.0 q.1 e) typed.ula-control

-- ---- the tilemap's registers

-- the five bounds of the group, each by itself
record TileParts (t : Tiles) : Type 0 where
  transparent : tile_transparent_fits t.transparent ≡ true
  control : tile_control_fits t.control ≡ true
  xhigh : x_high_fits t.xhigh ≡ true
  map : base_fits t.map ≡ true
  definitions : base_fits t.definitions ≡ true

all-five : (a b c d e : Bool) → a ≡ true → b ≡ true → c ≡ true → d ≡ true → e ≡ true → (a && b && c && d && e) ≡ true
all-five a b c d e p q r s t = rw (p, q, r, s, t)

tile-parts : (t : Tiles) → lawful_tiles t ≡ true → TileParts t
tile-parts t h5 =
    let a1 = tile_transparent_fits t.transparent in
    let a2 : Bool = a1 && tile_control_fits t.control in
    let a3 : Bool = a2 && x_high_fits t.xhigh in
    let a4 : Bool = a3 && base_fits t.map in
    let h4 = left-true a4 (base_fits t.definitions) h5 in
    let h3 = left-true a3 (base_fits t.map) h4 in
    let h2 = left-true a2 (x_high_fits t.xhigh) h3 in
    record {
      transparent = left-true a1 (tile_control_fits t.control) h2;
      control = right-true a1 (tile_control_fits t.control) h2;
      xhigh = right-true a2 (x_high_fits t.xhigh) h3;
      map = right-true a3 (base_fits t.map) h4;
      definitions = right-true a4 (base_fits t.definitions) h5;
    }

pub tile-attribute : Sound tile_attribute_written
tile-attribute = stored tiles-group tiles_with_attribute (λ t v h. h) typed.tiles-attribute

pub tile-x-low : Sound tile_xlow_written
tile-x-low = stored tiles-group tiles_with_xlow (λ t v h. h) typed.tiles-xlow

pub tile-y : Sound tile_ywritten
tile-y = stored tiles-group tiles_with_y (λ t v h. h) typed.tiles-y

pub tile-transparent : Sound tile_transparent_written
tile-transparent =
    stored-if tiles-group tile_transparent_fits tiles_with_transparent
    (λ t v e h. let q = tile-parts t h in all-five _ _ _ _ _ e q.control q.xhigh q.map q.definitions) typed.tiles-transparent

pub tile-control : Sound tile_control_written
tile-control =
    stored-if tiles-group tile_control_fits tiles_with_control
    (λ t v e h. let q = tile-parts t h in all-five _ _ _ _ _ q.transparent e q.xhigh q.map q.definitions) typed.tiles-control

pub tile-x-high : Sound tile_xhigh_written
tile-x-high =
    stored-if tiles-group x_high_fits tiles_with_xhigh
    (λ t v e h. let q = tile-parts t h in all-five _ _ _ _ _ q.transparent q.control e q.map q.definitions) typed.tiles-xhigh

-- what is kept of a byte fits a base
base-below : (v : ℕ) → base_fits (v % 64) ≡ true
base-below v = lt-ltb (v % 64) 64 (omega arith)

pub map : Sound map_written
map =
    stored tiles-group (λ t v. tiles_with_map t (v % 64))
    (λ t v h. let q = tile-parts t h in all-five _ _ _ _ _ q.transparent q.control q.xhigh (base-below v) q.definitions)
    (λ t v b z. typed.tiles-map t (v % 64) (omega arith) z)

pub definitions : Sound definitions_written
definitions =
    stored tiles-group (λ t v. tiles_with_definitions t (v % 64))
    (λ t v h. let q = tile-parts t h in all-five _ _ _ _ _ q.transparent q.control q.xhigh q.map (base-below v))
    (λ t v b z. typed.tiles-definitions t (v % 64) (omega arith) z)

-- ---- the clips and their turns

turn-fits : (turn : ℕ) → turn_fits (next_turn turn) ≡ true
turn-fits turn = le-leb (next_turn turn) 3 (omega arith)

turn_byte : (turn : ℕ) → next_turn turn < 256
turn_byte turn = omega arith

pub ula-turn : (r : Turns) → lawful_turns r ≡ true → turn_fits r.ula ≡ true
ula-turn r h = left-true (turn_fits r.ula) (turn_fits r.tiles) h

pub tile-turn : (r : Turns) → lawful_turns r ≡ true → turn_fits r.tiles ≡ true
tile-turn r h = right-true (turn_fits r.ula) (turn_fits r.tiles) h

pub ula-clip : Sound ula_clip_written
ula-clip =
    always (λ s v. with_turns (with_ula_clip s (set s.ulaclip (coordinate s.turns.ula) v)) (turns_with_ula s.turns (next_turn s.turns.ula)))
    (λ s v b p.
    let r = s.turns in
    let l = set s.ulaclip (coordinate r.ula) v in
    let q = typed.with-ulaclip s p.2 l (typed.numbers-set (coordinate r.ula) v b p.2.ulaclip) in
    turns-group.takes (with_ula_clip s l) _ (p.0, p.1, q) (both _ _ (turn-fits r.ula) (tile-turn r p.0.turns))
    (typed.turns-ula r (next_turn r.ula) (turn_byte r.ula) p.2.turns))

pub tile-clip : Sound tile_clip_written
tile-clip =
    always (λ s v. with_turns (with_tile_clip s (set s.tileclip (coordinate s.turns.tiles) v)) (turns_with_tiles s.turns (next_turn s.turns.tiles)))
    (λ s v b p.
    let r = s.turns in
    let l = set s.tileclip (coordinate r.tiles) v in
    let q = typed.with-tileclip s p.2 l (typed.numbers-set (coordinate r.tiles) v b p.2.tileclip) in
    turns-group.takes (with_tile_clip s l) _ (p.0, p.1, q) (both _ _ (ula-turn r p.0.turns) (turn-fits r.tiles))
    (typed.turns-tiles r (next_turn r.tiles) (turn_byte r.tiles) p.2.turns))

-- both turns after $1C
abbrev restarted_both : Turns → ℕ → Turns
restarted_both r v = turns_with_tiles (turns_with_ula r (restarted (v / 4 % 2) r.ula)) (restarted (v / 8 % 2) r.tiles)

restart-fits : (bit turn : ℕ) → turn_fits turn ≡ true → turn_fits (restarted bit turn) ≡ true
restart-fits bit turn h = either (λ k. turn_fits k ≡ true) (eqb bit 1) 0 turn refl h

restart-byte : (bit turn : ℕ) → turn < 256 → restarted bit turn < 256
restart-byte bit turn h = either (λ k. k < 256) (eqb bit 1) 0 turn (omega arith) h

restarts-typed : (r : Turns) (v : ℕ) → v < 256 → TurnsTyped r → TurnsTyped (restarted_both r v)
restarts-typed r v b z =
    typed.turns-tiles (turns_with_ula r (restarted (v / 4 % 2) r.ula)) _ (restart-byte (v / 8 % 2) r.tiles z.tiles)
    (typed.turns-ula r _ (restart-byte (v / 4 % 2) r.ula z.ula) z)

pub turns : Sound turns_written
turns =
    stored-if turns-group (λ v. leb v 15) restarted_both
    (λ r v e h. both _ _ (restart-fits (v / 4 % 2) r.ula (ula-turn r h)) (restart-fits (v / 8 % 2) r.tiles (tile-turn r h))) restarts-typed

-- ---- the palette registers

module _ (p : Palette) (h : lawful_palette p ≡ true) where
  palette-parts : (is_mask p.mask ≡ true) × (is_choice p.control ≡ true) × (half_fits p.held p.half ≡ true)
  palette-parts = three-parts (is_mask p.mask) (is_choice p.control) (half_fits p.held p.half) h

  mask-of : is_mask p.mask ≡ true
  mask-of = palette-parts.0

  choice-of : is_choice p.control ≡ true
  choice-of = palette-parts.1

  half_of : half_fits p.held p.half ≡ true
  half_of = palette-parts.2

-- the index moved and no half held
moved-typed : (p : Palette) (v : ℕ) → v < 256 → PaletteTyped p → PaletteTyped (palette_without_half (palette_with_index p v))
moved-typed p v b z = typed.palette-without-half (palette_with_index p v) (typed.palette-index p v b z)

pub index : Sound index_written
index = stored palette-group (λ p v. palette_without_half (palette_with_index p v)) (λ p v h. all_three _ _ _ (mask-of p h) (choice-of p h) refl) moved-typed

pub mask : Sound mask_written
mask = stored-if palette-group is_mask palette_with_mask (λ p v e h. all_three _ _ _ e (choice-of p h) (half_of p h)) typed.palette-mask

pub control : Sound control_written
control =
    stored-if palette-group is_choice (λ p v. palette_without_half (palette_with_control p v)) (λ p v e h. all_three _ _ _ (mask-of p h) e refl)
    (λ p v b z. typed.palette-without-half (palette_with_control p v) (typed.palette-control p v b z))

next-byte : (k i : ℕ) → i < 256 → next_index k i < 256
next-byte k i l = either (λ j. j < 256) (leb 128 k) i ((i + 1) % 256) l (omega arith)

put-kept : (s : State) (c : ℕ) → c ≤ 511 → Parts s → Parts (colour_put s c)
put-kept s c l p =
    let o = s.palette in
    let n = palette_choice s in
    let h = set-colours (palette_at n s) o.index c (palette-lawful n s p.1) l in
    let m = typed.numbers-set o.index c (omega arith) (palette-typed n s p.2) in
    palette-group.takes (colour_stored s n o.index c) _ (with-palette-at n s _ p h m)
    (all_three _ _ _ (mask-of o p.0.palette) (choice-of o p.0.palette) refl)
    (moved-typed o (next_index o.control o.index) (next-byte o.control o.index p.2.palette.index) p.2.palette)

pub eight : Sound eight_written
eight = always (λ s v. colour_put s (widened v)) (λ s v b p. put-kept s (widened v) (widened-most v b) p)

first : Sound nine_first
first = stored palette-group palette_with_half (λ p v h. all_three _ _ _ (mask-of p h) (choice-of p h) refl) typed.palette-half

second : Sound nine_second
second =
    judged (λ v. leb v 1) (λ s v. colour_put s (s.palette.half * 2 + v))
    (λ s v b e p. put-kept s _ (omega (arith, leb-true v 1 e, p.2.palette.half)) p)

pub nine : Sound nine_written
nine = chosen (λ s. s.palette.held) nine_second nine_first second first

-- ---- the ports

border-of : (o : Ports) → lawful_ports o ≡ true → border_fits o.border ≡ true
border-of o h = left-true (border_fits o.border) (select_fits o.select) h

select-of : (o : Ports) → lawful_ports o ≡ true → select_fits o.select ≡ true
select-of o h = right-true (border_fits o.border) (select_fits o.select) h

pub border : Sound border_written
border =
    stored ports-group (λ o v. ports_with_border o (v % 8)) (λ o v h. both _ _ (le-leb (v % 8) 7 (omega arith)) (select-of o h))
    (λ o v b z. typed.ports-border o (v % 8) (omega arith) z)

pub timex : Sound timex_written
timex = stored ports-group ports_with_timex (λ o v h. h) typed.ports-timex

pub select : Sound select_written
select = stored-if ports-group select_fits ports_with_select (λ o v e h. both _ _ (border-of o h) e) typed.ports-select

mode : Sound mode_written
mode = stored ports-group (λ o v. ports_with_plus o (eqb (v % 2) 1)) (λ o v h. h) (λ o v b z. typed.ports-plus o (eqb (v % 2) 1) z)

pub plus : Sound plus_written
plus =
    chosen mode_group mode_written (λ s v. done (with_plus s (set s.plus s.ports.select v))) mode
    (always (λ s v. with_plus s (set s.plus s.ports.select v))
    (λ s v b p. (p.0, p.1, typed.with-plus s p.2 (set s.plus s.ports.select v) (typed.numbers-set s.ports.select v b p.2.plus))))

-- ---- the two tables

pub registers-sound : Each (λ r. Sound r.effect) register_writes
registers-sound =
    peripheral
    ▷ transparent
    ▷ layers
    ▷ ula-clip
    ▷ tile-clip
    ▷ turns
    ▷ ula-x
    ▷ ula-y
    ▷ tile-x-high
    ▷ tile-x-low
    ▷ tile-y
    ▷ lores-x
    ▷ lores-y
    ▷ index
    ▷ eight
    ▷ mask
    ▷ control
    ▷ nine
    ▷ fallback
    ▷ tile-transparent
    ▷ ula-control
    ▷ tile-control
    ▷ tile-attribute
    ▷ map
    ▷ definitions
    ▷ none

pub ports-sound : Each (λ r. Sound r.effect) port_writes
ports-sound = border ▷ timex ▷ select ▷ plus ▷ none
