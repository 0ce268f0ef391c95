-- Rules 4.23 and 13.4: facts of the addresses, each said once over all modes, and of the ink masks, each said once over the eight.
use Rattle.std.specs.Prelude.{ℕ, ◌+◌, ◌-◌, ◌/◌, ◌%◌, ◌^◌, ◌<◌, ◌≡◌, true, false, cond}
use Rattle.std.specs.Int.Count.{ones}
use Rattle.register_bounds.specs.Bounds.{is_mask}
use Rattle.ula_mode.specs.Modes.{is_lores, is_hires}
use Rattle.ula_mode.specs.declared.modes.Mode.{Mode}
use Rattle.ula_byte.specs.Bytes.{hires_address, lores_address}
use Rattle.ula_address.specs.Addresses.{bitmap_address, attribute_address}
use Rattle.ula_scheme.specs.declared.schemes.Scheme.TheVariants.{Next}
use Rattle.ula_index.specs.Index.{ink_index, paper_index, paperless}

-- the picture in the bank has 192 rows of 32 columns, in mode 6 of 64, and in LoRes 96 rows of 128
abbrev pub picture_rows : Mode → ℕ
picture_rows m = cond (is_lores m) 96 192

abbrev pub picture_columns : Mode → ℕ
picture_columns m = cond (is_lores m) 128 (cond (is_hires m) 64 32)

pub record InPicture (m : Mode) (y c : ℕ) : Type 0 where
  pub row : y < picture_rows m
  pub column : c < picture_columns m

-- the byte of a row and column
abbrev pub picture_address : Mode → ℕ → ℕ → ℕ
picture_address m y c = cond (is_lores m) (lores_address y c) (cond (is_hires m) (hires_address y c) (bitmap_address m y c))

-- every byte of a picture and every attribute is inside the bank
abbrev pub AddressesInBank : Type 0
AddressesInBank = (m : Mode) (y c : ℕ) → (InPicture m y c → picture_address m y c < 16384) × (y < 192 → c < 32 → attribute_address m y c < 16384)

-- an address is that of one row and column
abbrev pub AddressesOneToOne : Type 0
AddressesOneToOne = (m : Mode) (y c z d : ℕ) → InPicture m y c → InPicture m z d → picture_address m y c ≡ picture_address m z d → (y ≡ z) × (c ≡ d)

-- no byte is a bitmap's and an attribute too
abbrev pub AttributesApart : Type 0
AttributesApart = (m : Mode) (y c z d : ℕ) → y < 192 → c < 32 → z < 192 → d < 32 → bitmap_address m y c ≡ attribute_address m z d → ⊥

-- each mask is 2 to its count of ones, less 1; `ones` is what the language's own count gives
abbrev pub MasksAreOnes : Type 0
MasksAreOnes = (m : ℕ) → is_mask m ≡ true → m ≡ 2 ^ ones m - 1

-- and no other byte is, but 0
abbrev pub OnlyMasksAreOnes : Type 0
OnlyMasksAreOnes = (m : ℕ) → 0 < m → m < 256 → m ≡ 2 ^ ones m - 1 → is_mask m ≡ true

-- the ink index is attribute mod 2 to the count
abbrev pub InkByOnes : Type 0
InkByOnes = (m a : ℕ) → is_mask m ≡ true → ink_index Next m a ≡ a % 2 ^ ones m

-- each mask below 255 leaves a paper, whose index is 128 + attribute div 2 to the count, whatever the attribute
abbrev pub PaperByOnes : Type 0
PaperByOnes = (m a : ℕ) → is_mask m ≡ true → m < 255 → (paperless Next m ≡ false) × (paper_index Next m a ≡ 128 + a / 2 ^ ones m)
