-- The claims on the turns. A coordinate that is mirrored twice is itself, so the two mirrors of a turn lead back from a pixel to its place;
-- rotate exchanges which of the two goes with the column.
use Prim.Native.Nat.{ℕ, ◌/◌, ◌%◌, ◌<◌}
use mathlib.Core.Path.{◌≡◌}
use mathlib.Core.Bool.{Bool, true, false, cond, not}
use native.Mathlib.Omega.{arith}
use lib.Dec.{eqb}
use Rattle.tilemap_turns.specs.Turns.{mirrored, column_of, row_of}
use Rattle.tilemap_turns.specs.Claims.{TurnsInside, ShownOnce}

pub mirror-inside : (b : Bool) (v : ℕ) → v < 8 → mirrored b v < 8
mirror-inside true v h = omega arith
mirror-inside false v h = h

mirror-twice : (b : Bool) (v : ℕ) → v < 8 → mirrored b (mirrored b v) ≡ v
mirror-twice true v h = omega arith
mirror-twice false v h = omega arith

mirror-back : (b : Bool) (p v : ℕ) → p < 8 → v < 8 → mirrored b p ≡ v → p ≡ mirrored b v
mirror-back true p v g h e = omega arith
mirror-back false p v g h e = e

-- which mirrors a turn has
abbrev back : ℕ → Bool
back turn = not (eqb (turn / 4 % 2) (turn % 2))

abbrev upside : ℕ → Bool
upside turn = eqb (turn / 2 % 2) 1

-- a choice of two coordinates is one within the cell
either : (r : Bool) (u v : ℕ) → u < 8 → v < 8 → cond r u v < 8
either true u v h k = h
either false u v h k = k

pub turns_inside : TurnsInside
unfolding column_of row_of
turns_inside turn x y h k =
    let a = mirror-inside (back turn) x h in
    let b = mirror-inside (upside turn) y k in
    (either (eqb (turn % 2) 1) _ _ b a, either (eqb (turn % 2) 1) _ _ a b)

-- what the two mirrors a and b show, rotated or not
pub record Spotted (r a b : Bool) (column row x y : ℕ) : Type 0 where
  pub across : x < 8
  pub down : y < 8
  pub its-column : cond r (mirrored b y) (mirrored a x) ≡ column
  pub its-row : cond r (mirrored a x) (mirrored b y) ≡ row

once : (r a b : Bool) (column row : ℕ) → column < 8 → row < 8
    → (x : ℕ) × (y : ℕ) × Spotted r a b column row x y × ((p q : ℕ) → Spotted r a b column row p q → (p ≡ x) × (q ≡ y))
once true a b column row h k = (
  mirrored a row,
  mirrored b column,
  record {
    across = mirror-inside a row k;
    down = mirror-inside b column h;
    its-column = mirror-twice b column h;
    its-row = mirror-twice a row k;
  },
  λ p q s. (mirror-back a p row s.across k s.its-row, mirror-back b q column s.down h s.its-column),
)
once false a b column row h k = (
  mirrored a column,
  mirrored b row,
  record {
    across = mirror-inside a column h;
    down = mirror-inside b row k;
    its-column = mirror-twice a column h;
    its-row = mirror-twice b row k;
  },
  λ p q s. (mirror-back a p column s.across h s.its-column, mirror-back b q row s.down k s.its-row),
)

pub shown_once : ShownOnce
unfolding column_of row_of
shown_once turn column row h k =
    let o = once (eqb (turn % 2) 1) (back turn) (upside turn) column row h k in
    let s = o.2 in (
      o.0,
      o.1,
      record { across = s.across; down = s.down; its-column = s.its-column; its-row = s.its-row },
      λ p q g. o.3 p q (record { across = g.across; down = g.down; its-column = g.its-column; its-row = g.its-row }),
    )
