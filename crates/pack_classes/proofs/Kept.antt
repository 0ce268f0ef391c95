-- A turned cell has the same mark: mirrors move the four pixels of a place among themselves, rotation moves them to the
-- place across the diagonal, and the weights do not tell the two apart.
use mathlib.Core.Path.{◌≡◌, refl, sym, ap, ◌∙◌}
use mathlib.Core.List.{List}
use mathlib.Core.Bool.{Bool, true, false, cond, not}
use Prim.Native.Nat.{ℕ, ◌+◌, ◌-◌, ◌*◌, ◌/◌, ◌%◌, ◌<◌}
use native.Mathlib.Omega.{arith}
use lib.Dec.{lit<, eqb}
use Rattle.lists.proofs.Search.{least-none, some_at}
use Rattle.tilemap_turns.specs.Turns.{column_of, row_of, mirrored}
use Rattle.pack_classes.specs.Picture.{pixel_in}
use Rattle.pack_classes.specs.Turned.{turned_into, turn_for, can_make}
use Rattle.pack_classes.specs.Mark.{total, weight, weight_at, square_of, mark_term, mark_of}
use Rattle.pack_classes.proofs.Cells.{made_at}

-- the four pixels that mirrors make of (u, v), added
four_of : (ℕ → ℕ → ℕ) → ℕ → ℕ → ℕ
four_of P u v = P u v + P (7 - u) v + P u (7 - v) + P (7 - u) (7 - v)

-- twice mirrored
back : (u : ℕ) → u < 8 → 7 - (7 - u) ≡ u
back u l = omega arith

four-mirrored : (D : ℕ → ℕ → ℕ) (f g : Bool) (u v : ℕ) → u < 8 → v < 8 → four_of (λ x y. D (mirrored f x) (mirrored g y)) u v ≡ four_of D u v
unfolding four_of
four-mirrored D false false u v hu hv = refl
four-mirrored D false true u v hu hv = rw (back v hv) (omega arith)
four-mirrored D true false u v hu hv = rw (back u hu) (omega arith)
four-mirrored D true true u v hu hv = rw (back u hu, back v hv) (omega arith)

four-swap : (D : ℕ → ℕ → ℕ) (u v : ℕ) → four_of (λ x y. D y x) u v ≡ four_of D v u
unfolding four_of
four-swap D u v = omega arith

four_same : (C D : ℕ → ℕ → ℕ) (u v : ℕ) → u < 8 → v < 8 → ((x y : ℕ) → x < 8 → y < 8 → C x y ≡ D x y) → four_of C u v ≡ four_of D u v
unfolding four_of
four_same C D u v hu hv h =
    let a : 7 - u < 8 = omega arith in
    let b : 7 - v < 8 = omega arith in
    rw (h u v hu hv, h (7 - u) v a hv, h u (7 - v) hu b, h (7 - u) (7 - v) a b) refl

four-turned : (C D : ℕ → ℕ → ℕ) (t u v : ℕ) → u < 8 → v < 8
    → ((x y : ℕ) → x < 8 → y < 8 → C x y ≡ D (column_of t x y) (row_of t x y))
    → four_of C u v ≡ cond (eqb (t % 2) 1) (four_of D v u) (four_of D u v)
unfolding column_of row_of
four-turned C D t u v hu hv h = go (eqb (t % 2) 1) (not (eqb (t / 4 % 2) (t % 2))) (eqb (t / 2 % 2) 1) h
  where
    go : (r f g : Bool)
        → ((x y : ℕ) → x < 8 → y < 8 → C x y ≡ D (cond r (mirrored g y) (mirrored f x)) (cond r (mirrored f x) (mirrored g y)))
        → four_of C u v ≡ cond r (four_of D v u) (four_of D u v)
    go false f g h = four_same C (λ x y. D (mirrored f x) (mirrored g y)) u v hu hv h ∙ four-mirrored D f g u v hu hv
    go true f g h =
        four_same C (λ x y. D (mirrored g y) (mirrored f x)) u v hu hv h ∙ four-mirrored (λ x y. D y x) f g u v hu hv ∙ four-swap D u v

-- the mark of the pixels P is that of the 16 places of a quarter
marked : (ℕ → ℕ → ℕ) → ℕ
marked P = total (λ i. weight_at i * P (i % 8) (i / 8)) 64

quarter : (ℕ → ℕ → ℕ) → ℕ
quarter P = total (λ i. weight (i % 4) (i / 4) * four_of P (i % 4) (i / 4)) 16

marked-quarter : (P : ℕ → ℕ → ℕ) → marked P ≡ quarter P
unfolding marked quarter total weight_at four_of
marked-quarter P = omega arith

quarter-turned : (C D : ℕ → ℕ → ℕ) (r : Bool) → ((u v : ℕ) → u < 8 → v < 8 → four_of C u v ≡ cond r (four_of D v u) (four_of D u v)) → quarter C ≡ quarter D
unfolding quarter total
quarter-turned C D false q = omega (arith, q 0 0 (lit< tt) (lit< tt), q 0 1 (lit< tt) (lit< tt), q 0 2 (lit< tt) (lit< tt), q 0 3 (lit< tt) (lit< tt), q 1 0 (lit< tt) (lit< tt), q 1 1 (lit< tt) (lit< tt), q 1 2 (lit< tt) (lit< tt), q 1 3 (lit< tt) (lit< tt), q 2 0 (lit< tt) (lit< tt), q 2 1 (lit< tt) (lit< tt), q 2 2 (lit< tt) (lit< tt), q 2 3 (lit< tt) (lit< tt), q 3 0 (lit< tt) (lit< tt), q 3 1 (lit< tt) (lit< tt), q 3 2 (lit< tt) (lit< tt), q 3 3 (lit< tt) (lit< tt))
quarter-turned C D true q = omega (arith, q 0 0 (lit< tt) (lit< tt), q 0 1 (lit< tt) (lit< tt), q 0 2 (lit< tt) (lit< tt), q 0 3 (lit< tt) (lit< tt), q 1 0 (lit< tt) (lit< tt), q 1 1 (lit< tt) (lit< tt), q 1 2 (lit< tt) (lit< tt), q 1 3 (lit< tt) (lit< tt), q 2 0 (lit< tt) (lit< tt), q 2 1 (lit< tt) (lit< tt), q 2 2 (lit< tt) (lit< tt), q 2 3 (lit< tt) (lit< tt), q 3 0 (lit< tt) (lit< tt), q 3 1 (lit< tt) (lit< tt), q 3 2 (lit< tt) (lit< tt), q 3 3 (lit< tt) (lit< tt))

mark-turned : (C D : ℕ → ℕ → ℕ) (t : ℕ) → ((x y : ℕ) → x < 8 → y < 8 → C x y ≡ D (column_of t x y) (row_of t x y)) → marked C ≡ marked D
mark-turned C D t h = marked-quarter C ∙ quarter-turned C D (eqb (t % 2) 1) (λ u v hu hv. four-turned C D t u v hu hv h) ∙ sym (marked-quarter D)

squares : List ℕ → ℕ → ℕ → ℕ
squares cell x y = square_of (pixel_in cell x y)

mark-cell : (cell : List ℕ) → mark_of cell ≡ marked (squares cell)
unfolding mark_of marked mark_term total squares
mark-cell cell = refl

mark-same : (from cell : List ℕ) (t : ℕ) → turned_into from cell t ≡ true → mark_of from ≡ mark_of cell
unfolding squares
mark-same from cell t e =
    mark-cell from ∙ sym (mark-turned (squares cell) (squares from) t (λ x y h k. ap square_of (made_at from cell t e x y h k))) ∙ sym (mark-cell cell)

-- a cell has the mark of those that can be turned into it
pub mark_made : (from cell : List ℕ) → can_make from cell ≡ true → mark_of from ≡ mark_of cell
unfolding can_make
mark_made from cell e = let w = some_at (turned_into from cell) 8 e in mark-same from cell w.0 w.2

-- cells with different marks cannot be turned into each other
pub unmarked : (from cell : List ℕ) → (mark_of from ≡ mark_of cell → ⊥) → 8 ≡ turn_for from cell
unfolding turn_for
unmarked from cell h = least-none (turned_into from cell) 8 (λ i l. go i (turned_into from cell i) refl)
  where
    go : (i : ℕ) (b : Bool) → turned_into from cell i ≡ b → b ≡ false
    go i true e = absurd (h (mark-same from cell i e))
    go i false e = refl
