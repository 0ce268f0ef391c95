-- Cells and their turns: a cell's bytes and pixels, what it is for one cell to be another turned, and that this goes on
-- from cell to cell.
use mathlib.Core.Path.{◌≡◌, refl, sym, ap₂, ◌∙◌}
use mathlib.Core.List.{List}
use mathlib.Core.Bool.{Bool, true, false}
use Prim.Native.Nat.{ℕ, ◌+◌, ◌*◌, ◌/◌, ◌%◌, ◌<◌}
use native.Mathlib.Omega.{arith}
use borrow.Author.Tests.{eqb-true, eq-eqb}
use Rattle.lists.proofs.Search.{not-both, all-at, all_of, some_of, some_at}
use Rattle.lists.proofs.Tab.{get_or-tab}
use Rattle.tilemap_turns.specs.Turns.{column_of, row_of, half_of}
use Rattle.pack_classes.specs.Picture.{pixel_of, cell_pixel, cell_byte, cell_pixels, pixel_in}
use Rattle.pack_classes.specs.Turned.{turned_at, turned_row, turned_into, can_make, can_turn}
use Rattle.pack_classes.proofs.Group.{composed, divided, column-small, row_small}
use Rattle.pack_classes.proofs.Claims.{turns_undone, turn_none}

-- two tests of which each implies the other
pub bool_same : (a b : Bool) → (a ≡ true → b ≡ true) → (b ≡ true → a ≡ true) → a ≡ b
bool_same true b h k = sym (h refl)
bool_same false true h k = absurd (not-both (k refl) refl)
bool_same false false h k = refl

-- the pixel at x is a half of the byte it is in
pub pixel-half : (pic : List ℕ) (c x y : ℕ) → x < 8 → cell_pixel pic c x y ≡ half_of x (cell_byte pic c (y * 4 + x / 2))
unfolding cell_pixel pixel_of cell_byte half_of
pixel-half pic c x y h =
    let e : (c % 40 * 8 + x) % 2 ≡ x % 2 = omega arith in
    let line : (y * 4 + x / 2) / 4 ≡ y = omega arith in
    let byte : (y * 4 + x / 2) % 4 ≡ x / 2 = omega arith in
    let f : (c / 40 * 8 + y) * 160 + (c % 40 * 8 + x) / 2 ≡ (c / 40 * 8 + y) * 160 + c % 40 * 4 + x / 2 = omega arith in
    rw (line, byte, e, f)

pub pixel-at : (pic : List ℕ) (c x y : ℕ) → x < 8 → y < 8 → pixel_in (cell_pixels pic c) x y ≡ cell_pixel pic c x y
unfolding cell_pixels
pixel-at pic c x y h k =
    let ex : (y * 8 + x) % 8 ≡ x = omega arith in
    let ey : (y * 8 + x) / 8 ≡ y = omega arith in
    get_or-tab (λ (i : ℕ). cell_pixel pic c (i % 8) (i / 8)) 64 (y * 8 + x) (omega arith) ∙ ap₂ (cell_pixel pic c) ex ey

-- one cell is another turned: at each pixel
pub made_of : (from cell : List ℕ) (t : ℕ) → ((x y : ℕ) → x < 8 → y < 8 → pixel_in cell x y ≡ pixel_in from (column_of t x y) (row_of t x y))
    → turned_into from cell t ≡ true
unfolding turned_into turned_row
made_of from cell t h = all_of (turned_row from cell t) 8 (λ y k. all_of (turned_at from cell t y) 8 (λ x l. eq-eqb _ _ (h x y l k)))

pub made_at : (from cell : List ℕ) (t : ℕ) → turned_into from cell t ≡ true
    → (x y : ℕ) → x < 8 → y < 8 → pixel_in cell x y ≡ pixel_in from (column_of t x y) (row_of t x y)
unfolding turned_into turned_row
made_at from cell t e x y h k = eqb-true _ _ (all-at (turned_at from cell t y) 8 (all-at (turned_row from cell t) 8 e y k) x h)

-- cell c is the pixels of P under the turn t
unfoldable pub Shows : List ℕ → ℕ → (ℕ → ℕ → ℕ) → ℕ → Type 0
Shows pic c P t = (x y : ℕ) → x < 8 → y < 8 → cell_pixel pic c x y ≡ P (column_of t x y) (row_of t x y)

-- a cell shown by the pixels of another, under a turn, is that other turned
pub turned-of : (pic : List ℕ) (d c t : ℕ) → Shows pic c (cell_pixel pic d) t → turned_into (cell_pixels pic d) (cell_pixels pic c) t ≡ true
unfolding Shows
turned-of pic d c t h =
    made_of (cell_pixels pic d) (cell_pixels pic c) t
    (λ x y k l.
    pixel-at pic c x y k l ∙ h x y k l ∙ sym (pixel-at pic d (column_of t x y) (row_of t x y) (column-small t x y k l) (row_small t x y k l)))

pub turned-is : (pic : List ℕ) (d c t : ℕ) → turned_into (cell_pixels pic d) (cell_pixels pic c) t ≡ true → Shows pic c (cell_pixel pic d) t
unfolding Shows
turned-is pic d c t e x y h k =
    sym (pixel-at pic c x y h k) ∙ made_at (cell_pixels pic d) (cell_pixels pic c) t e x y h k
    ∙ pixel-at pic d (column_of t x y) (row_of t x y) (column-small t x y h k) (row_small t x y h k)

pub can-of : (pic : List ℕ) (d c t : ℕ) → t < 8 → Shows pic c (cell_pixel pic d) t → can_turn pic d c ≡ true
unfolding can_make
can-of pic d c t l h = some_of (turned_into (cell_pixels pic d) (cell_pixels pic c)) 8 t l (turned-of pic d c t h)

pub can-at : (pic : List ℕ) (d c : ℕ) → can_turn pic d c ≡ true → (t : ℕ) × (t < 8) × Shows pic c (cell_pixel pic d) t
unfolding can_make
can-at pic d c h =
    let w = some_at (turned_into (cell_pixels pic d) (cell_pixels pic c)) 8 h in (w.0, w.1, turned-is pic d c w.0 w.2)

pub can-self : (pic : List ℕ) (c : ℕ) → can_turn pic c c ≡ true
unfolding Shows column_of row_of
can-self pic c = can-of pic c c 0 (omega arith) (λ x y h k. refl)

-- c is P under t, d is P under u: c can be turned into d, by the turn that makes u of t
pub can-share : (pic : List ℕ) (P : ℕ → ℕ → ℕ) (c d t u : ℕ) → t < 8 → u < 8 → Shows pic c P t → Shows pic d P u → can_turn pic c d ≡ true
unfolding Shows
can-share pic P c d t u h k hc hd =
    let w = divided t u h k in
    let s = w.0 in
    can-of pic c d s w.1
    (λ x y hx hy.
    hd x y hx hy ∙ ap₂ P (sym (w.2.columns x y hx hy)) (sym (w.2.rows x y hx hy))
    ∙ sym (hc (column_of s x y) (row_of s x y) (column-small s x y hx hy) (row_small s x y hx hy)))

-- d can be turned into c, and c into e
pub can-trans : (pic : List ℕ) (d c e : ℕ) → can_turn pic d c ≡ true → can_turn pic c e ≡ true → can_turn pic d e ≡ true
unfolding Shows
can-trans pic d c e h k =
    let w = can-at pic d c h in
    let v = can-at pic c e k in
    let u = v.0 in
    let z = composed w.0 u w.1 v.1 in
    can-of pic d e z.0 z.1
    (λ x y hx hy.
    v.2 x y hx hy ∙ w.2 (column_of u x y) (row_of u x y) (column-small u x y hx hy) (row_small u x y hx hy)
    ∙ ap₂ (cell_pixel pic d) (z.2.columns x y hx hy) (z.2.rows x y hx hy))

-- two cells that can be turned into a third: the one into the other
pub can-both : (a b c : List ℕ) → can_make a c ≡ true → can_make b c ≡ true → can_make a b ≡ true
unfolding can_make
can-both a b c h k =
    let w = some_at (turned_into a c) 8 h in
    let v = some_at (turned_into b c) 8 k in
    let back = turns_undone v.0 v.1 in
    let s = back.0 in
    let z = composed w.0 s w.1 back.1 in
    some_of (turned_into a b) 8 z.0 z.1
    (made_of a b z.0
    (λ x y hx hy.
    let lx = column-small s x y hx hy in
    let ly = row_small s x y hx hy in
    sym (ap₂ (pixel_in b) (back.2.columns x y hx hy ∙ (turn_none x y).0) (back.2.rows x y hx hy ∙ (turn_none x y).1))
    ∙ sym (made_at b c v.0 v.2 (column_of s x y) (row_of s x y) lx ly)
    ∙ made_at a c w.0 w.2 (column_of s x y) (row_of s x y) lx ly
    ∙ ap₂ (pixel_in a) (z.2.columns x y hx hy) (z.2.rows x y hx hy)))
