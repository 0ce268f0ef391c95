-- The test of the fields, group by group.
use mathlib.Core.Path.{◌≡◌, refl, sym, ◌∙◌}
use mathlib.Core.List.{List}
use mathlib.Core.Bool.{Bool, true, false, ◌&&◌}
use Prim.Native.Nat.{ℕ, ◌+◌}
use lib.ListN.{length, get_or}
use Rattle.state.specs.declared.State.{State}
use Rattle.state.specs.declared.Ula.{Ula}
use Rattle.state.specs.declared.Palette.{Palette}
use Rattle.state.specs.declared.Tiles.{Tiles}
use Rattle.state.specs.declared.Turns.{Turns}
use Rattle.state.specs.declared.Ports.{Ports}
use Rattle.state.specs.Lawful.{lawful_ula, lawful_palette, lawful_tiles, lawful_turns, lawful_ports, all_colours, lawful_state}
use Rattle.record_layout.specs.declared.Version.{Version}
use Rattle.record_layout.specs.declared.Version.TheVariants.{Version1}
use Rattle.record_layout.specs.Fields.{pair, row_at}
use Rattle.record_layout.specs.Version.{added}
use Rattle.record_layout.specs.Layout.{is_flag}
use Rattle.record_layout.specs.Places.{held_place, plus_on_place, ula_first_place, ula_second_place, tile_first_place, tile_second_place}
use Rattle.record_layout.specs.Record.{record_length, sound, state_as}
use Rattle.record_layout.proofs.Read.{ulafirst-read, ulasecond-read, tilefirst-read, tilesecond-read}
use Rattle.record_layout.proofs.Claims.{sound_is_lawful}

grouped : (r a b c d : Bool) → (r && (a && b && c && d)) ≡ (r && a && b && c && d)
grouped true a b c d = refl
grouped false a b c d = refl

abbrev lawful_fields : State → Bool
lawful_fields s = lawful_ula s.ula && lawful_palette s.palette && lawful_tiles s.tiles && lawful_turns s.turns && lawful_ports s.ports

abbrev lawful_colours : State → Bool
lawful_colours s = all_colours s.ulafirst && all_colours s.ulasecond && all_colours s.tilefirst && all_colours s.tilesecond

-- the groups of a state keep their bounds where those read do
pub fields-kept : (s : State) (u : Ula) (p : Palette) (t : Tiles) (turns : Turns) (ports : Ports) (r : Bool)
    → u ≡ s.ula → p ≡ s.palette → t ≡ s.tiles → turns ≡ s.turns → ports ≡ s.ports
    → r ≡ (lawful_ula u && lawful_palette p && lawful_tiles t && lawful_turns turns && lawful_ports ports) → r ≡ lawful_fields s
fields-kept s u p t turns ports r eu ep et en eo er = er ∙ rw (eu, ep, et, en, eo)

-- the palettes of a state are all colours where those read are; `n` is what the version adds
pub colours-kept : (v : Version) (b : List ℕ) (n : ℕ) → n ≡ added v → (first second third fourth : Bool)
    → first ≡ all_colours (row_at pair 256 b (ula_first_place Version1 + n)) → second ≡ all_colours (row_at pair 256 b (ula_second_place Version1 + n))
    → third ≡ all_colours (row_at pair 256 b (tile_first_place Version1 + n)) → fourth ≡ all_colours (row_at pair 256 b (tile_second_place Version1 + n))
    → (first && second && third && fourth) ≡ lawful_colours (state_as v b)
colours-kept v b n e first second third fourth e1 e2 e3 e4 =
    rw (e1, e2, e3, e4, e, ulafirst-read b v, ulasecond-read b v, tilefirst-read b v, tilesecond-read b v)

-- no place is bad where the flags are 0 or 1 and the fields of the state keep their bounds
pub bounds-kept : (v : Version) (b : List ℕ) → length b ≡ record_length v → (held plus : ℕ) → held ≡ held_place v → plus ≡ plus_on_place v → (registers palettes : Bool)
    → registers ≡ lawful_fields (state_as v b) → palettes ≡ lawful_colours (state_as v b)
    → (is_flag (get_or b held 0) && is_flag (get_or b plus 0) && (registers && palettes)) ≡ sound v b
unfolding lawful_state
bounds-kept v b l held plus eh eo registers palettes er ep =
    rw (eh, eo, er, ep, grouped (lawful_fields (state_as v b)) (all_colours (state_as v b).ulafirst) (all_colours (state_as v b).ulasecond) (all_colours (state_as v b).tilefirst) (all_colours (state_as v b).tilesecond))
    (sym (sound_is_lawful v b l))
