-- A cell's bytes and its pixels: the two halves of a byte, a byte at its place in the picture, and four stores of a line.
use mathlib.Core.Path.{◌≡◌, refl, sym}
use mathlib.Core.List.{List}
use Prim.Native.Nat.{ℕ, ◌+◌, ◌*◌, ◌/◌, ◌%◌, ◌<◌}
use native.Mathlib.Omega.{arith}
use lib.ListN.{length, get_or, take, set, length-set}
use Rattle.lists.specs.Tab.{tab}
use Rattle.lists.proofs.Tab.{get_or-tab, length-tab, tab-ext, tab-step}
use Rattle.tilemap_turns.specs.Turns.{half_of}
use Rattle.pack_classes.specs.Picture.{cell_byte, cell_pixels}
use Rattle.pack_classes.proofs.Cells.{pixel-half}

-- a byte's two pixels
module _ (bs : List ℕ) (k : ℕ) where
  pub half-left : get_or bs k 0 < 256 → get_or bs k 0 / 16 ≡ half_of (k * 2) (get_or bs (k * 2 / 2) 0)
  unfolding half_of
  half-left h =
      let e : k * 2 / 2 ≡ k = omega arith in
      let z : k * 2 % 2 ≡ 0 = omega arith in
      let d : get_or bs k 0 / 16 % 16 ≡ get_or bs k 0 / 16 = omega arith in
      sym (rw (e, z) d)

  pub half-right : get_or bs k 0 % 16 ≡ half_of (k * 2 + 1) (get_or bs ((k * 2 + 1) / 2) 0)
  unfolding half_of
  half-right =
      let e : (k * 2 + 1) / 2 ≡ k = omega arith in
      let z : (k * 2 + 1) % 2 ≡ 1 = omega arith in
      sym (rw (e, z) refl)

-- byte k of the four of line y, at its place in the picture
pub byte_at : (pic : List ℕ) (c y k j i : ℕ) → k < 4 → j ≡ c / 40 * 1280 + c % 40 * 4 + y * 160 + k → i ≡ y * 4 + k → get_or pic j 0 ≡ cell_byte pic c i
unfolding cell_byte
byte_at pic c y k j i h ej ei =
    let line : i / 4 ≡ y = omega arith in
    let byte : i % 4 ≡ k = omega arith in
    let e : j ≡ (c / 40 * 8 + y) * 160 + c % 40 * 4 + k = omega arith in
    rw (line, byte, e)

-- four stores at 4 y to 4 y + 3
module _ (f : ℕ → ℕ) where
  one_more : (l : List ℕ) (i j a : ℕ) → i < length l → take i l ≡ tab f i → a ≡ f i → j ≡ i + 1 → take j (set l i a) ≡ tab f j
  one_more l i j a h p q e = rw e (tab-step f l i a h p q)

  pub four-more : (l : List ℕ) (y a b c d : ℕ) → y * 4 + 3 < length l → take (y * 4) l ≡ tab f (y * 4)
      → a ≡ f (y * 4) → b ≡ f (y * 4 + 1) → c ≡ f (y * 4 + 2) → d ≡ f (y * 4 + 3)
      → take ((y + 1) * 4) (set (set (set (set l (y * 4) a) (y * 4 + 1) b) (y * 4 + 2) c) (y * 4 + 3) d) ≡ tab f ((y + 1) * 4)
  four-more l y a b c d h p qa qb qc qd =
      one_more (set (set (set l (y * 4) a) (y * 4 + 1) b) (y * 4 + 2) c) (y * 4 + 3) ((y + 1) * 4) d (simp length-set h)
      (one_more (set (set l (y * 4) a) (y * 4 + 1) b) (y * 4 + 2) (y * 4 + 3) c (simp length-set (omega arith))
      (one_more (set l (y * 4) a) (y * 4 + 1) (y * 4 + 2) b (simp length-set (omega arith))
      (one_more l (y * 4) (y * 4 + 1) a (omega arith) p qa refl) qb (omega arith)) qc (omega arith)) qd (omega arith)

-- the halves of a cell's bytes are its pixels
pub pixels-of : (pic : List ℕ) (c : ℕ) (bs : List ℕ) → bs ≡ tab (cell_byte pic c) 32
    → tab (λ (i : ℕ). half_of i (get_or bs (i / 2) 0)) (length bs * 2) ≡ cell_pixels pic c
unfolding cell_pixels half_of
pixels-of pic c bs q =
    rw (q, length-tab (cell_byte pic c) 32)
    (tab-ext _ _ 64
    (λ i l.
    let b : i / 2 < 32 = omega arith in
    let e : i / 8 * 4 + i % 8 / 2 ≡ i / 2 = omega arith in
    let z : i % 8 % 2 ≡ i % 2 = omega arith in
    sym (rw (pixel-half pic c (i % 8) (i / 8) (omega arith), e, z, get_or-tab (cell_byte pic c) 32 (i / 2) b))))
