-- Rule 7.2: the places of a record's parts, counted from the front, by name. `PlacesAreSums` ties them to the layout.
use Rattle.std.specs.Prelude.{ℕ, ◌+◌, List, [], ◌∷◌, ◌++◌}
use Rattle.record_layout.specs.declared.Version.{Version}
use Rattle.record_layout.specs.declared.Version.TheVariants.{Version1, Version2}
use Rattle.record_layout.specs.Version.{added}

-- the number of bytes following, two bytes
abbrev pub count_place : ℕ
count_place = 0

abbrev pub version_place : ℕ
version_place = 2

-- the first part
abbrev pub parts_place : ℕ
parts_place = 3

-- $14
abbrev pub ula_transparent_place : ℕ
ula_transparent_place = 3

-- $15
abbrev pub layers_place : ℕ
layers_place = 4

-- $08
abbrev pub peripheral_place : ℕ
peripheral_place = 5

-- $43
abbrev pub palette_control_place : ℕ
palette_control_place = 6

-- $40
abbrev pub index_place : ℕ
index_place = 7

-- $42
abbrev pub mask_place : ℕ
mask_place = 8

-- $4A
abbrev pub fallback_place : ℕ
fallback_place = 9

-- $4C
abbrev pub tile_transparent_place : ℕ
tile_transparent_place = 10

-- $68
abbrev pub ula_control_place : ℕ
ula_control_place = 11

-- $6B
abbrev pub tile_control_place : ℕ
tile_control_place = 12

-- $6C
abbrev pub attribute_place : ℕ
attribute_place = 13

-- $2F
abbrev pub tile_xhigh_place : ℕ
tile_xhigh_place = 14

-- $30
abbrev pub tile_xlow_place : ℕ
tile_xlow_place = 15

-- $31
abbrev pub tile_yplace : ℕ
tile_yplace = 16

-- $6E
abbrev pub map_place : ℕ
map_place = 17

-- $6F
abbrev pub definitions_place : ℕ
definitions_place = 18

-- $32
abbrev pub lores_xplace : ℕ
lores_xplace = 19

-- $33
abbrev pub lores_yplace : ℕ
lores_yplace = 20

-- $26, or what is read as it
abbrev pub ula_xplace : Version → ℕ
ula_xplace v = lores_xplace + added v

-- $27, or what is read as it
abbrev pub ula_yplace : Version → ℕ
ula_yplace v = lores_yplace + added v

-- from here on the parts stand further back where a version has more before them

-- X1, X2, Y1, Y2 of $1A
abbrev pub ula_clip_place : Version → ℕ
ula_clip_place v = 21 + added v

-- X1, X2, Y1, Y2 of $1B
abbrev pub tile_clip_place : Version → ℕ
tile_clip_place v = 25 + added v

abbrev pub ula_turn_place : Version → ℕ
ula_turn_place v = 29 + added v

abbrev pub tile_turn_place : Version → ℕ
tile_turn_place v = 30 + added v

-- whether a half colour is held
abbrev pub held_place : Version → ℕ
held_place v = 31 + added v

-- the held byte
abbrev pub half_place : Version → ℕ
half_place v = 32 + added v

abbrev pub border_place : Version → ℕ
border_place v = 33 + added v

-- $FF
abbrev pub timex_place : Version → ℕ
timex_place v = 34 + added v

-- $BF3B
abbrev pub select_place : Version → ℕ
select_place v = 35 + added v

-- ULAplus on
abbrev pub plus_on_place : Version → ℕ
plus_on_place v = 36 + added v

abbrev pub frame_place : Version → ℕ
frame_place v = 37 + added v

-- the 64 ULAplus registers
abbrev pub plus_place : Version → ℕ
plus_place v = 38 + added v

abbrev pub ula_first_place : Version → ℕ
ula_first_place v = 102 + added v

abbrev pub ula_second_place : Version → ℕ
ula_second_place v = 614 + added v

abbrev pub tile_first_place : Version → ℕ
tile_first_place v = 1126 + added v

abbrev pub tile_second_place : Version → ℕ
tile_second_place v = 1638 + added v

-- the places of what version 2 has more
abbrev pub scroll_places : Version → List ℕ
scroll_places Version1 = []
scroll_places Version2 = ula_xplace Version2 ∷ ula_yplace Version2 ∷ []

-- the places of the parts, in their order
abbrev pub named_places : Version → List ℕ
named_places v =
    ula_transparent_place ∷ layers_place ∷ peripheral_place ∷ palette_control_place ∷ index_place ∷ mask_place ∷ fallback_place
    ∷ tile_transparent_place ∷ ula_control_place ∷ tile_control_place ∷ attribute_place ∷ tile_xhigh_place ∷ tile_xlow_place ∷ tile_yplace
    ∷ map_place ∷ definitions_place ∷ lores_xplace ∷ lores_yplace ∷ scroll_places v ++
    (ula_clip_place v ∷ tile_clip_place v ∷ ula_turn_place v ∷ tile_turn_place v
    ∷ held_place v ∷ half_place v ∷ border_place v ∷ timex_place v ∷ select_place v ∷ plus_on_place v ∷ frame_place v ∷ plus_place v
    ∷ ula_first_place v ∷ ula_second_place v ∷ tile_first_place v ∷ tile_second_place v ∷ [])
