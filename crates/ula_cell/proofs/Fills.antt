-- What the cells of a row are filled with is the dots of the display that they cover.
use Prim.Native.Nat.{ℕ, zero, suc, ◌+◌, ◌*◌, ◌-◌, ◌/◌, ◌%◌, ◌≤◌, ◌<◌}
use mathlib.Core.Path.{◌≡◌, refl, ap, ◌∙◌}
use mathlib.Core.List.{List}
use mathlib.Core.Bool.{Bool, true, false, cond}
use native.Mathlib.Omega.{arith}
use lib.ListN.{get_or}
use lib.Dec.{eqb, ltb}
use borrow.Author.Tests.{ltb-true, ltb-false}
use Rattle.lists.specs.Tab.{tab}
use Rattle.lists.proofs.Tab.{tab-ext}
use Rattle.ula_scroll.specs.Scrolls.{pixel_read, dot_read}
use Rattle.ula_scroll.specs.Columns.{PixelsRead, DotsRead}
use Rattle.ula_byte.specs.Bytes.{hires_address, bit_of}
use Rattle.ula_address.specs.Addresses.{bitmap_address, attribute_address}
use Rattle.ula_address.proofs.Columns.{bitmap-column, attribute-column}
use Rattle.ula_scheme.specs.declared.schemes.Colours.{Colours}
use Rattle.ula_attribute.specs.Colours.{bit_dot}
use Rattle.ula_view.specs.declared.views.View.{View}
use Rattle.ula_cell.specs.Cells.{pixel_dot, hires_dot}
use Rattle.ula_cell.specs.Rows.{chosen_dot, hires_chosen}

-- a number that is 0 or 1
by_bit : (f : ℕ → ℕ) (n : ℕ) → n < 2 → cond (eqb n 1) (f 1) (f 0) ≡ f n
by_bit f zero h = refl
by_bit f (suc zero) h = refl
by_bit f (suc (suc n)) h = absurd (omega arith)

-- the two dots of an attribute, chosen by a bit, are the dot of the bit
lit-bit : (l : Colours) (pal plus : List ℕ) (a b x : ℕ) → chosen_dot b x (bit_dot l pal plus a 1) (bit_dot l pal plus a 0) ≡ bit_dot l pal plus a (bit_of b x)
unfolding chosen_dot
lit-bit l pal plus a b x = by_bit (bit_dot l pal plus a) (bit_of b x) (omega arith)

-- place j of a column of eight: the column, and the place in its byte
in-column : (n column j : ℕ) → j < 8 → n ≡ column * 8 + j → (n / 8 ≡ column) × (n % 8 ≡ j % 8)
in-column n column j h e = (omega arith, omega arith)

pub pixel-fill : (p : View) (l : Colours) (pal plus bank : List ℕ) (bits cells i column a b bit1 bit0 : ℕ) → PixelsRead i p.offset column
    → bits ≡ bitmap_address p.mode p.row 0 → cells ≡ attribute_address p.mode p.row 0
    → a ≡ get_or bank (cells + column) 0 → b ≡ get_or bank (bits + column) 0
    → bit1 ≡ bit_dot l pal plus a 1 → bit0 ≡ bit_dot l pal plus a 0
    → tab (λ (k : ℕ). chosen_dot b (k / 2) bit1 bit0) 16 ≡ tab (λ (k : ℕ). pixel_dot p l pal plus bank ((i * 16 + k) / 2)) 16
unfolding pixel_dot
pixel-fill p l pal plus bank bits cells i column a b bit1 bit0 read eb ec ea ef eo ez =
    tab-ext _ _ 16 (λ k g.
    let e : (i * 16 + k) / 2 ≡ i * 8 + k / 2 = omega arith in
    let h : k / 2 < 8 = omega arith in
    let s = in-column (pixel_read (i * 8 + k / 2) p.offset) column (k / 2) h (read (k / 2) h) in
    rw (e, s.0, s.1, attribute-column p.mode p.row column, bitmap-column p.mode p.row column, ← eb, ← ec, ← ea, ← ef, eo, ez)
    (lit-bit l pal plus a b (k / 2)))

-- dot k of sixteen: of the first byte, or of the second
pub hires-fill : (p : View) (bank : List ℕ) (i even odd x y bit1 bit0 : ℕ) → DotsRead (i * 2) p.offset even → DotsRead (i * 2 + 1) p.offset odd
    → x ≡ get_or bank (hires_address p.row even) 0 → y ≡ get_or bank (hires_address p.row odd) 0
    → tab (λ (k : ℕ). chosen_dot (cond (ltb k 8) x y) k bit1 bit0) 16 ≡ tab (λ (k : ℕ). hires_chosen p bit1 bit0 bank (i * 16 + k)) 16
unfolding hires_chosen chosen_dot
hires-fill p bank i even odd x y bit1 bit0 first second ex ey = tab-ext _ _ 16 (λ k g. go k g (ltb k 8) refl)
  where
    go : (k : ℕ) → k < 16 → (b : Bool) → ltb k 8 ≡ b → chosen_dot (cond b x y) k bit1 bit0 ≡ hires_chosen p bit1 bit0 bank (i * 16 + k)
    go k g true e =
        let h : k < 8 = ltb-true k 8 e in
        let n : i * 16 + k ≡ i * 2 * 8 + k = omega arith in
        let s = in-column (dot_read (i * 16 + k) p.offset) even k h (ap (λ (d : ℕ). dot_read d p.offset) n ∙ first k h) in
        rw (s.0, s.1, ← ex)
    go k g false e =
        let h : k - 8 < 8 = omega (arith, g) in
        let w : 8 ≤ k = ltb-false k 8 e in
        let n : i * 16 + k ≡ (i * 2 + 1) * 8 + (k - 8) = omega (arith, w) in
        let s = in-column (dot_read (i * 16 + k) p.offset) odd (k - 8) h (ap (λ (d : ℕ). dot_read d p.offset) n ∙ second (k - 8) h) in
        let m : (k - 8) % 8 ≡ k % 8 = omega (arith, w) in
        rw (s.0, s.1, m, ← ey)

-- a row of mode 6 from its two dots
pub hires-dots : (p : View) (l : Colours) (pal plus bank : List ℕ) (bit1 bit0 : ℕ)
    → bit1 ≡ bit_dot l pal plus p.attribute 1 → bit0 ≡ bit_dot l pal plus p.attribute 0
    → tab (hires_chosen p bit1 bit0 bank) 512 ≡ tab (hires_dot p l pal plus bank) 512
unfolding hires_chosen hires_dot
hires-dots p l pal plus bank bit1 bit0 eo ez = rw (eo, ez) (tab-ext _ _ 512 (λ d g. lit-bit l pal plus p.attribute _ _))
