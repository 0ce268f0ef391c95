-- Rules 1.8 and 8.7: demand 3 over the definitions; what an entry and a definition of the packing are, what later sheets can cite, and
-- what a map names.
use Rattle.std.specs.Prelude.{◌≡◌, List, ◌⊎◌, ℕ, ◌+◌, ◌*◌, ◌/◌, ◌%◌, ◌≤◌, ◌<◌, length, get_or}
use Rattle.lists.specs.Bytes.{Bytes}
use Rattle.reply.specs.declared.Reply.TheVariants.{Done, TooManyTiles}
use Rattle.tilemap_turns.specs.Turns.{turn_of, half_of}
use Rattle.tilemap_rule.specs.Index.{tile_index}
use Rattle.pack_classes.specs.Picture.{cell_pixel}
use Rattle.pack_rule.specs.Sheet.{high_byte, named, sheet_setup, SetIn, sheet_index}
use Rattle.pack_rule.specs.Greedy.{def_cells, tile_count, cell_turn, packed_map, packed_defs}
use Rattle.pack_rule.specs.Answer.{pack_answer, NoneDraws, Setting, Fewest}
use Rattle.reply.specs.Answered.{reply_of, value_of}

-- for a picture, a number allowed and an offset in order, the packing is accepted and draws with the fewest, or it is refused 11 and
-- none that names at most the number allowed draws
abbrev pub FewestOrNone : Type 0
FewestOrNone =
    (pic : List ℕ) (allowed offset : ℕ) → length pic ≡ 40960 → Bytes pic → allowed ≤ 256 → offset ≤ 15
    → ((reply_of (pack_answer pic allowed offset 2560 8192) ≡ Done)
    × Fewest pic offset (value_of (pack_answer pic allowed offset 2560 8192)) (packed_map pic offset) (packed_defs pic))
    ⊎ ((reply_of (pack_answer pic allowed offset 2560 8192) ≡ TooManyTiles) × NoneDraws pic allowed offset)

-- there is a setting for every map and definitions
abbrev pub SettingExists : Type 0
SettingExists = (map defs : List ℕ) → length map ≡ 2560 → length defs ≡ 8192 → Bytes map → Bytes defs → Setting map defs

-- an entry of the packing has the offset given, the smallest turn, and bit 8 clear
abbrev pub EntryParts : Type 0
EntryParts =
    (pic : List ℕ) (offset c : ℕ) → c < 1280
    → (high_byte (packed_map pic offset) c / 16 ≡ offset) × (turn_of (high_byte (packed_map pic offset) c) ≡ cell_turn pic c)
    × (high_byte (packed_map pic offset) c % 2 ≡ 0)

-- a definition of the packing is its cell, upright: pixel (x, y) of the one is pixel (x, y) of the other
abbrev pub DefinitionUpright : Type 0
DefinitionUpright =
    (pic : List ℕ) (n x y : ℕ) → tile_count pic ≤ 256 → n < tile_count pic → x < 8 → y < 8
    → half_of x (get_or (packed_defs pic) (n * 32 + y * 4 + x / 2) 0) ≡ cell_pixel pic (get_or (def_cells pic 1280) n 0) x y

-- in every setting the tilemap rule gives, at each pixel, the index read directly from map and definitions
abbrev pub SheetRead : Type 0
SheetRead =
    (map defs bank : List ℕ) (attribute map_base def_base : ℕ) → SetIn map defs bank map_base def_base
    → (x y : ℕ) → x < 320 → y < 256 → tile_index (sheet_setup attribute map_base def_base) bank x y ≡ sheet_index map defs x y

-- what a map names goes by the low bytes of its entries alone
abbrev pub NamedByLowBytes : Type 0
NamedByLowBytes =
    (map others : List ℕ) → ((c : ℕ) → c < 1280 → get_or map (c * 2) 0 ≡ get_or others (c * 2) 0) → named map ≡ named others
