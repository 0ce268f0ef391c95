-- Rows compared as numbers: eight bytes are equal exactly where their numbers are, since a byte is a digit to the base 256; and
-- what a turn makes of a cell is the cell, or its transpose where the turn rotates, mirrored.
use mathlib.Core.Path.{◌≡◌, refl, sym, ap, ap₂, ◌∙◌, subst}
use mathlib.Core.List.{List}
use mathlib.Core.Bool.{Bool, true, false, cond, not}
use Prim.Native.Nat.{ℕ, zero, suc, ◌+◌, ◌*◌, ◌/◌, ◌%◌, ◌<◌}
use native.Mathlib.Nat.{not-suc-le-zero}
use native.Mathlib.Omega.{arith}
use lib.ListN.{get_or}
use lib.Dec.{eqb}
use borrow.Author.Tests.{eqb-true, eq-eqb}
use Rattle.lists.specs.Search.{all}
use Rattle.lists.proofs.Search.{below, all-at, all_of}
use Rattle.lists.proofs.Tab.{get_or-tab}
use Rattle.tilemap_turns.specs.Turns.{column_of, row_of, mirrored}
use Rattle.pack_classes.specs.Picture.{pixel_in}
use Rattle.pack_classes.specs.Turned.{turned_row, turned_into}
use Rattle.pack_turns.specs.Rows.{transpose_of, in_row, Row, row_same, rows_same}
use Rattle.tilemap_turns.proofs.Claims.{mirror-inside}
use Rattle.pack_classes.proofs.Cells.{bool_same}

-- what holds at each of eight numbers
each : (P : ℕ → Type 0) → P 0 → P 1 → P 2 → P 3 → P 4 → P 5 → P 6 → P 7 → (x : ℕ) → x < 8 → P x
each P a b c d e f g h =
    below P 7 (below P 6 (below P 5 (below P 4 (below P 3 (below P 2 (below P 1 (below P 0 (λ x l. absurd (not-suc-le-zero l)) a) b) c) d) e) f) g) h

-- n digits as one number, the first the lowest
digits : (ℕ → ℕ) → ℕ → ℕ
digits d zero = 0
digits d (suc n) = d 0 + 256 * digits (λ x. d (suc x)) n

-- a row's number, and its pixels
module _ (cell : List ℕ) (i : ℕ) (back : Bool) (r : ℕ) (w : Row cell i back r) where
  row-digits : r ≡ digits (in_row cell i back) 8
  unfolding digits
  row-digits = omega (arith, w.row_number)

  row-bytes : (x : ℕ) → x < 8 → in_row cell i back x < 256
  row-bytes =
      each (λ x. in_row cell i back x < 256) w.byte0 w.byte1 w.byte2 w.byte3 w.byte4 w.byte5 w.byte6 w.byte7

lowest : (x y m n : ℕ) → x < 256 → y < 256 → x + 256 * m ≡ y + 256 * n → x ≡ y
lowest x y m n h k e = omega arith

others : (x y m n : ℕ) → x < 256 → y < 256 → x + 256 * m ≡ y + 256 * n → m ≡ n
others x y m n h k e = omega arith

digits_same : (p q : ℕ → ℕ) (n : ℕ) → ((x : ℕ) → x < n → p x < 256) → ((x : ℕ) → x < n → q x < 256) → digits p n ≡ digits q n
    → (x : ℕ) → x < n → p x ≡ q x
unfolding digits
digits_same p q zero hp hq e x l = absurd (not-suc-le-zero l)
digits_same p q (suc n) hp hq e zero l = lowest (p 0) (q 0) _ _ (hp 0 l) (hq 0 l) e
digits_same p q (suc n) hp hq e (suc x) l =
    digits_same (λ x. p (suc x)) (λ x. q (suc x)) n (λ x k. hp (suc x) (omega (arith, k))) (λ x k. hq (suc x) (omega (arith, k)))
    (others (p 0) (q 0) _ _ (hp 0 (omega arith)) (hq 0 (omega arith)) e) x (omega (arith, l))

same_digits : (p q : ℕ → ℕ) (n : ℕ) → ((x : ℕ) → x < n → p x ≡ q x) → digits p n ≡ digits q n
unfolding digits
same_digits p q zero h = refl
same_digits p q (suc n) h =
    ap₂ (λ (x y : ℕ). x + 256 * y) (h 0 (omega arith)) (same_digits (λ x. p (suc x)) (λ x. q (suc x)) n (λ x l. h (suc x) (omega (arith, l))))

-- two rows are equal where their numbers are
pub rows_same_lem : (from cell : List ℕ) (j i : ℕ) (back : Bool) (a b : ℕ) → Row cell i false a → Row from j back b → eqb a b ≡ row_same from j back cell i
unfolding row_same
rows_same_lem from cell j i back a b r s =
    let p = in_row cell i false in
    let q = in_row from j back in
    let ea : a ≡ digits p 8 = row-digits cell i false a r in
    let eb : b ≡ digits q 8 = row-digits from j back b s in
    bool_same _ _
    (λ e. all_of (λ x. eqb (p x) (q x)) 8 (λ x l. eq-eqb _ _ (digits_same p q 8 (row-bytes cell i false a r) (row-bytes from j back b s) (sym ea ∙ eqb-true a b e ∙ eb) x l)))
    (λ e. eq-eqb a b (ea ∙ same_digits p q 8 (λ x l. eqb-true _ _ (all-at (λ x. eqb (p x) (q x)) 8 e x l)) ∙ sym eb))

all_same : (p q : ℕ → Bool) (n : ℕ) → ((x : ℕ) → x < n → p x ≡ q x) → all p n ≡ all q n
unfolding all
all_same p q zero h = refl
all_same p q (suc n) h = ap₂ (λ (b c : Bool). cond b c false) (h n (omega arith)) (all_same p q n (λ x l. h x (omega (arith, l))))

transpose-at : (cell : List ℕ) (x y : ℕ) → x < 8 → y < 8 → pixel_in (transpose_of cell) x y ≡ pixel_in cell y x
unfolding transpose_of
transpose-at cell x y h k =
    let ex : (y * 8 + x) % 8 ≡ x = omega arith in
    let ey : (y * 8 + x) / 8 ≡ y = omega arith in
    get_or-tab (λ (i : ℕ). get_or cell (i % 8 * 8 + i / 8) 0) 64 (y * 8 + x) (omega arith) ∙ ap₂ (λ (u v : ℕ). get_or cell (u * 8 + v) 0) ex ey

-- a cell that a turn makes is the first cell, or its transpose where the turn rotates, mirrored
pub turned_rows : (from cell : List ℕ) (t : ℕ) (r : Bool) → eqb (t % 2) 1 ≡ r
    → rows_same (cond r (transpose_of from) from) cell (eqb (t / 2 % 2) 1) (not (eqb (t / 4 % 2) (t % 2))) ≡ turned_into from cell t
unfolding rows_same row_same turned_into turned_row column_of row_of
turned_rows from cell t r e =
    subst (λ (z : Bool). rows_same (cond z (transpose_of from) from) cell (eqb (t / 2 % 2) 1) (not (eqb (t / 4 % 2) (t % 2))) ≡ turned_into from cell t) e
    (go (eqb (t % 2) 1) (eqb (t / 2 % 2) 1) (not (eqb (t / 4 % 2) (t % 2))))
  where
    go : (r down back : Bool)
        → all (λ y. all (λ x. eqb (pixel_in cell x y) (pixel_in (cond r (transpose_of from) from) (mirrored back x) (mirrored down y))) 8) 8
        ≡ all (λ y. all (λ x. eqb (pixel_in cell x y) (pixel_in from (cond r (mirrored down y) (mirrored back x)) (cond r (mirrored back x) (mirrored down y)))) 8) 8
    go false down back = refl
    go true down back =
        all_same _ _ 8
        (λ y k. all_same _ _ 8
        (λ x l. ap (eqb (pixel_in cell x y)) (transpose-at from (mirrored back x) (mirrored down y) (mirror-inside back x l) (mirror-inside down y k))))
