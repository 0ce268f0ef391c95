-- No map that draws a picture names fewer tiles than the picture has classes of cells: two cells with one tile number show
-- one definition, so either can be turned into the other.
use mathlib.Core.Path.{◌≡◌, sym, ◌∙◌}
use mathlib.Core.List.{List}
use Prim.Native.Nat.{ℕ, ◌+◌, ◌*◌, ◌/◌, ◌%◌, ◌≤◌, ◌<◌}
use native.Mathlib.Omega.{arith}
use lib.Dec.{eqb}
use lib.ListN.{get_or}
use borrow.Author.Tests.{eqb-true}
use Rattle.lists.proofs.Search.{firsts-within}
use Rattle.tilemap_turns.specs.Turns.{turn_of, column_of, row_of, half_of}
use Rattle.pack_classes.specs.Picture.{pixel_of, cell_pixel}
use Rattle.pack_classes.specs.Turned.{can_turn, classes}
use Rattle.tilemap_rule.proofs.Within.{half-below}
use Rattle.pack_classes.proofs.Cells.{Shows, can-share}
use Rattle.pack_rule.specs.Sheet.{low_byte, high_byte, named, sheet_index, Draws}
use Rattle.pack_rule.proofs.Banked.{turn_small, read}

-- they draw the picture, read directly
abbrev pub Direct : List ℕ → ℕ → List ℕ → List ℕ → Type 0
Direct pic offset map defs = (x y : ℕ) → x < 320 → y < 256 → sheet_index map defs x y ≡ offset * 16 + pixel_of pic x y

pub direct : (pic : List ℕ) (offset : ℕ) (map defs : List ℕ) → Draws pic offset map defs → Direct pic offset map defs
direct pic offset map defs d x y hx hy =
    sym (read map defs d.bank d.attribute d.map_base d.def_base d.set x y hx hy) ∙ d.draws x y hx hy

-- pixel (u, v) of definition n
abbrev pub def_pixel : List ℕ → ℕ → ℕ → ℕ → ℕ
def_pixel defs n u v = half_of u (get_or defs (n * 32 + v * 4 + u / 2) 0)

-- a map that draws the picture shows each cell by the tile that it names
drawn : (pic : List ℕ) (offset : ℕ) (map defs : List ℕ) → Direct pic offset map defs → (c : ℕ) → c < 1280
    → Shows pic c (def_pixel defs (low_byte map c)) (turn_of (high_byte map c))
unfolding Shows cell_pixel sheet_index pixel_of
drawn pic offset map defs d c l x y h k =
    let cell : (c / 40 * 8 + y) / 8 * 40 + (c % 40 * 8 + x) / 8 ≡ c = omega arith in
    let ex : (c % 40 * 8 + x) % 8 ≡ x = omega arith in
    let ey : (c / 40 * 8 + y) % 8 ≡ y = omega arith in
    let e = rw (cell, ex, ey) at (d (c % 40 * 8 + x) (c / 40 * 8 + y) (omega arith) (omega arith)) in
    omega (arith, e, half-below (c % 40 * 8 + x) (get_or pic ((c / 40 * 8 + y) * 160 + (c % 40 * 8 + x) / 2) 0), half-below (column_of (turn_of (high_byte map c)) x y) (get_or defs (low_byte map c * 32 + row_of (turn_of (high_byte map c)) x y * 4 + column_of (turn_of (high_byte map c)) x y / 2) 0))

pub lower : (pic : List ℕ) (offset : ℕ) (map defs : List ℕ) → Direct pic offset map defs → classes pic ≤ named map
unfolding classes named
lower pic offset map defs d =
    firsts-within (can_turn pic) (λ i j. eqb (low_byte map i) (low_byte map j)) 1280
    (λ i j l h e.
    let same = eqb-true (low_byte map i) (low_byte map j) e in
    can-share pic (def_pixel defs (low_byte map i)) i j _ _ (turn_small (high_byte map i)) (turn_small (high_byte map j))
    (drawn pic offset map defs d i (omega (arith, l, h))) (rw same (drawn pic offset map defs d j h)))
