-- Rules 11.1 to 11.6 and 13.3: the starred samples, each as what the definitions give and what the rule says.
use Rattle.std.specs.Prelude.{ℕ, ◌≡◌, List, [], ◌∷◌, Bool, true, ◌&&◌, eqb}
use Rattle.colour.specs.Bytes.{widened, plus_colour}
use Rattle.colour.specs.Screen.{eight_bits, screen_of}
use Rattle.ula_byte.specs.Bytes.{byte_address, hires_address, lores_address}
use Rattle.ula_address.specs.Addresses.{attribute_address}
use Rattle.ula_mode.specs.declared.modes.Mode.TheVariants.{HighColour}
use Rattle.ula_index.specs.Index.{ink_index, paper_index}
use Rattle.ula_border.specs.Border.{hires_border_index}
use Rattle.ula_scheme.specs.declared.schemes.Scheme.TheVariants.{Next}
use Rattle.tilemap_turns.specs.Turns.{column_of, row_of}

pub record Sample : Type 0 where
  pub given : ℕ
  pub says : ℕ

abbrev pub sample : ℕ → ℕ → Sample
sample given says = record { given = given; says = says }

abbrev pub starred : List Sample
starred =
    -- row 65 starts at $0900; its mode 2 attributes at $2900; row 191, column 31: $17FF
    sample (byte_address 65 0) 0x0900
    ∷ sample (attribute_address HighColour 65 0) 0x2900
    ∷ sample (byte_address 191 31) 0x17FF
    -- mode 6 row 0, column 3: $2001; LoRes row 47, column 127: $17FF; row 48, column 0: $2000
    ∷ sample (hires_address 0 3) 0x2001
    ∷ sample (lores_address 47 127) 0x17FF
    ∷ sample (lores_address 48 0) 0x2000
    -- attribute $5C: mask 7 gives ink 4, paper 139, mode 6 border 131; mask 15 gives 12 and 133
    ∷ sample (ink_index Next 7 0x5C) 4
    ∷ sample (paper_index Next 7 0x5C) 139
    ∷ sample (hires_border_index Next 7 0x5C) 131
    ∷ sample (ink_index Next 15 0x5C) 12
    ∷ sample (paper_index Next 15 0x5C) 133
    -- $E3 widens to 455, $02 to 5; ULAplus $02 is 4, $1C is 448
    ∷ sample (widened 0xE3) 455
    ∷ sample (widened 0x02) 5
    ∷ sample (plus_colour 0x02) 4
    ∷ sample (plus_colour 0x1C) 448
    -- colour 455 shows $FF00FF; three-bit 5 shows $B5
    ∷ sample (screen_of 455) 0xFF00FF
    ∷ sample (eight_bits 5) 0xB5
    -- a definition's top left pixel (0, 0) shows top right (7, 0) under rotate, which is turn 1
    ∷ sample (column_of 1 7 0) 0
    ∷ sample (row_of 1 7 0) 0
    -- top left (0, 0) under rotate with x mirror, turn 5
    ∷ sample (column_of 5 0 0) 0
    ∷ sample (row_of 5 0 0) 0
    -- bottom right (7, 7) under rotate with y mirror, turn 3
    ∷ sample (column_of 3 7 7) 0
    ∷ sample (row_of 3 7 7) 0
    ∷ []

abbrev pub agree : List Sample → Bool
agree [] = true
agree (x ∷ xs) = eqb x.given x.says && agree xs

-- every starred sample is what the definitions give
abbrev pub StarredSamples : Type 0
StarredSamples = agree starred ≡ true
