-- The claims on addresses, by cases on the mode: each is arithmetic, once LoRes's step is a quotient and a byte address is read as digits.
-- The claims on masks, from the test of `ula_index` that is computed over all bytes.
use Prim.Native.Nat.{ℕ, ◌+◌, ◌*◌, ◌/◌, ◌%◌, ◌^◌, ◌<◌}
use mathlib.Core.Path.{◌≡◌, refl, sym, ap, ◌∙◌}
use mathlib.Core.Bool.{Bool, true, false, cond}
use lib.Dec.{leb}
use lib.Bits.{bit_and, and_mask}
use lib.Count.{ones}
use native.Mathlib.Omega.{arith}
use borrow.Author.Tests.{leb-true, leb-false, ne_eqb}
use Rattle.ula_mode.specs.declared.modes.Mode.TheVariants.{Lores, Standard, Second, HighColour, HighResolution, Missing}
use Rattle.ula_byte.specs.Bytes.{byte_address, hires_address, lores_address}
use Rattle.ula_index.proofs.Masks.{mask-ones, ones-mask}
use Rattle.ula_laws.specs.Claims.{AddressesInBank, AddressesOneToOne, AttributesApart, MasksAreOnes, OnlyMasksAreOnes, InkByOnes, PaperByOnes}

-- the step from row 48 on
lores-step : (y c : ℕ) → y < 96 → lores_address y c ≡ y * 128 + c + y / 48 * 0x800
unfolding lores_address
lores-step y c h = go (leb 48 y) refl
  where
    go : (b : Bool) → leb 48 y ≡ b → cond b (y * 128 + c + 0x800) (y * 128 + c) ≡ y * 128 + c + y / 48 * 0x800
    go true e = omega (arith, leb-true 48 y e)
    go false e = omega (arith, leb-false 48 y e)

-- a number's last digit in base 32 or 8, and what stands before it
last-32 : (q r s t : ℕ) → r < 32 → t < 32 → q * 32 + r ≡ s * 32 + t → (q ≡ s) × (r ≡ t)
last-32 q r s t h g e = (omega arith, omega arith)

last-8 : (q r s t : ℕ) → r < 8 → t < 8 → q * 8 + r ≡ s * 8 + t → (q ≡ s) × (r ≡ t)
last-8 q r s t h g e = (omega arith, omega arith)

-- a row from its digits
row-digits : (y : ℕ) → y ≡ y / 64 * 64 + y / 8 % 8 * 8 + y % 8
row-digits y = omega arith

-- a byte address has the digits y div 64, y mod 8, y div 8 mod 8 and the column
byte_one : (y c z d : ℕ) → c < 32 → d < 32 → byte_address y c ≡ byte_address z d → (y ≡ z) × (c ≡ d)
byte_one y c z d hc hd e =
    let a = last-32 ((y / 64 * 8 + y % 8) * 8 + y / 8 % 8) c ((z / 64 * 8 + z % 8) * 8 + z / 8 % 8) d hc hd (omega arith) in
    let b = last-8 (y / 64 * 8 + y % 8) (y / 8 % 8) (z / 64 * 8 + z % 8) (z / 8 % 8) (omega arith) (omega arith) a.0 in
    let t = last-8 (y / 64) (y % 8) (z / 64) (z % 8) (omega arith) (omega arith) b.0 in
    (row-digits y ∙ rw (t.0, b.1, t.1) (sym (row-digits z)), a.1)

-- mode 6: an address has the column's bit before the byte address of its half
hires-one : (y c z d : ℕ) → y < 192 → c < 64 → z < 192 → d < 64 → hires_address y c ≡ hires_address z d → (y ≡ z) × (c ≡ d)
hires-one y c z d hy hc hz hd e =
    let s = split (byte_address y (c / 2)) (c % 2) (byte_address z (d / 2)) (d % 2) (low y (c / 2) hy (half c hc)) (low z (d / 2) hz (half d hd)) e in
    let b = byte_one y (c / 2) z (d / 2) (half c hc) (half d hd) s.0 in
    (b.0, whole c d b.1 s.1)
  where
    low : (y c : ℕ) → y < 192 → c < 32 → byte_address y c < 0x2000
    low y c h g = omega arith

    half : (c : ℕ) → c < 64 → c / 2 < 32
    half c h = omega arith

    whole : (c d : ℕ) → c / 2 ≡ d / 2 → c % 2 ≡ d % 2 → c ≡ d
    whole c d p q = omega arith

    split : (a r b s : ℕ) → a < 0x2000 → b < 0x2000 → a + r * 0x2000 ≡ b + s * 0x2000 → (a ≡ b) × (r ≡ s)
    split a r b s h g e = (omega arith, omega arith)

pub addresses_in_bank : AddressesInBank
addresses_in_bank Lores y c = (λ p. omega (arith, lores-step y c p.row), λ h g. omega arith)
addresses_in_bank Standard y c = (λ p. omega arith, λ h g. omega arith)
addresses_in_bank Second y c = (λ p. omega arith, λ h g. omega arith)
addresses_in_bank HighColour y c = (λ p. omega arith, λ h g. omega arith)
addresses_in_bank HighResolution y c = (λ p. omega arith, λ h g. omega arith)
addresses_in_bank Missing y c = (λ p. omega arith, λ h g. omega arith)

pub addresses_one_to_one : AddressesOneToOne
addresses_one_to_one Lores y c z d p q e =
    let s = lores-step y c p.row in
    let t = lores-step z d q.row in
    (omega arith, omega arith)
addresses_one_to_one Standard y c z d p q e = byte_one y c z d p.column q.column e
addresses_one_to_one Second y c z d p q e = byte_one y c z d p.column q.column (omega arith)
addresses_one_to_one HighColour y c z d p q e = byte_one y c z d p.column q.column e
addresses_one_to_one HighResolution y c z d p q e = hires-one y c z d p.row p.column q.row q.column e
addresses_one_to_one Missing y c z d p q e = byte_one y c z d p.column q.column e

pub attributes_apart : AttributesApart
attributes_apart Lores y c z d hy hc hz hd e = omega arith
attributes_apart Standard y c z d hy hc hz hd e = omega arith
attributes_apart Second y c z d hy hc hz hd e = omega arith
attributes_apart HighColour y c z d hy hc hz hd e = omega arith
attributes_apart HighResolution y c z d hy hc hz hd e = omega arith
attributes_apart Missing y c z d hy hc hz hd e = omega arith

pub masks_are_ones : MasksAreOnes
masks_are_ones m e = let p = mask-ones m e in omega arith

pub only_masks_are_ones : OnlyMasksAreOnes
only_masks_are_ones m p h e = ones-mask m p (omega arith) (omega arith)

pub ink_by_ones : InkByOnes
ink_by_ones m a e = ap (bit_and a) (masks_are_ones m e) ∙ and_mask a (ones m)

pub paper_by_ones : PaperByOnes
paper_by_ones m a e h =
    let q : a / 2 ^ ones m ≡ a / (m + 1) = ap (λ (n : ℕ). a / n) (mask-ones m e) in
    (ne_eqb m 255 (λ full. omega arith), omega arith)
