-- The row of a line: a cell's eight shades are written one by one; they are a column or a row of a definition, and eight of the line's; a cell that is written
-- makes the row longer; and the shade at x of the surface stands X offset mod 8 further on.
use Prim.Native.Nat.{ℕ, ◌+◌, ◌*◌, ◌/◌, ◌%◌, ◌≤◌, ◌<◌}
use mathlib.Core.Path.{◌≡◌, ap, ◌∙◌}
use mathlib.Core.List.{List, ◌++◌, append_assoc}
use mathlib.Core.Bool.{Bool, true, false, cond, not}
use native.Mathlib.Omega.{arith}
use lib.Dec.{eqb}
use lib.ListN.{length, take, drop, get_or, set, length-set, get_or-append}
use lib.Seq.{take_at, drop_at, drop-drop}
use Rattle.lists.specs.Tab.{tab}
use Rattle.lists.proofs.Tab.{tab-none, tab-step, tab-done, tab-ext, tab-join, length-tab, get_or-tab}
use Rattle.tilemap_entries.specs.declared.entries.TileSetup.{TileSetup}
use Rattle.tilemap_entries.specs.declared.entries.Entry.{Entry}
use Rattle.state_bits.specs.Bits.{columns_of, width_of}
use Rattle.tilemap_entries.specs.Entries.{ty_of, cell_of, entry_at, tile_number, tile_entry}
use Rattle.tilemap_turns.specs.Turns.{turn_of, mirrored, b_of, column_of, row_of}
use Rattle.tilemap_rule.specs.Index.{pixel_at, entry_pixel, tile_index}
use Rattle.tilemap.specs.Shades.{shade_from, shade_of, shade_at, row_length, tile_row}

-- the first k of a cell's eight shades are written, whatever pixel is read for each
pub record Written (shades : List ℕ) (offset mark : ℕ) (pixel : ℕ → ℕ) (out : List ℕ) (k : ℕ) : Type 0 where
  pub most : k ≤ 8
  pub eight : length out ≡ 8
  pub right : take k out ≡ tab (λ (j : ℕ). shade_from shades offset mark (pixel j)) k

module _ (shades : List ℕ) (offset mark : ℕ) (pixel : ℕ → ℕ) (out : List ℕ) where
  pub written_none : length out ≡ 8 → Written shades offset mark pixel out 0
  written_none e = record { most = omega arith; eight = e; right = tab-none _ }

  pub written_step : (k v : ℕ) → Written shades offset mark pixel out k → k < 8 → v ≡ shade_from shades offset mark (pixel k)
      → Written shades offset mark pixel (set out k v) (k + 1)
  written_step k v h l e = record { most = omega arith; eight = simp length-set h.eight; right = tab-step _ _ _ _ (omega arith) h.right e }

  pub written-done : (k : ℕ) → Written shades offset mark pixel out k → 8 ≤ k → out ≡ tab (λ (j : ℕ). shade_from shades offset mark (pixel j)) 8
  written-done k h l = let e : k ≡ 8 = omega arith in tab-done _ _ 8 h.eight (rw e at h.right)

-- an entry is read back where exactly one of x mirror and rotate is set
abbrev pub turned_back : Entry → Bool
turned_back e = not (eqb (turn_of e.high / 4 % 2) (turn_of e.high % 2))

-- a rotated entry shows a column of its definition, any other a row
module _ (t : TileSetup) (shades bank : List ℕ) (e : Entry) (y n b : ℕ) (en : n ≡ tile_number t e) (eb : b ≡ b_of (turn_of e.high) y) where
  pub turned-shades : (rotate : Bool) → eqb (turn_of e.high % 2) 1 ≡ rotate
      → tab (λ (k : ℕ). shade_of shades e.high (pixel_at bank (t.definitions + n * 32) (cond rotate b (mirrored (turned_back e) k)) (cond rotate (mirrored (turned_back e) k) b))) 8
      ≡ tab (λ (k : ℕ). shade_of shades e.high (entry_pixel t bank e k y)) 8
  unfolding entry_pixel column_of row_of
  turned-shades rotate r = tab-ext _ _ 8 (λ k g. rw (en, eb, r))

-- the eight places of a cell are in one column of the map, each at its own place in the cell
same-column : (w : Bool) (x j k : ℕ) → j % 8 ≡ 0 → k < 8 → (x / 8 * 8 + (j + k)) % width_of w / 8 ≡ (x / 8 * 8 + j) % width_of w / 8
same-column true x j k e h = omega arith
same-column false x j k e h = omega arith

place-in-cell : (w : Bool) (x j k : ℕ) → j % 8 ≡ 0 → k < 8 → (x / 8 * 8 + (j + k)) % width_of w % 8 ≡ k
place-in-cell true x j k e h = omega arith
place-in-cell false x j k e h = omega arith

pub cell-shades : (t : TileSetup) (shades bank : List ℕ) (j ty tx cell : ℕ) (e : Entry) → j % 8 ≡ 0 → tx ≡ (t.x / 8 * 8 + j) % width_of t.columns80
    → cell ≡ cell_of t.columns80 tx ty → e ≡ entry_at t bank cell
    → tab (λ (k : ℕ). shade_of shades e.high (entry_pixel t bank e k (ty % 8))) 8
    ≡ tab (λ (k : ℕ). shade_at t shades bank ((t.x / 8 * 8 + (j + k)) % width_of t.columns80) ty) 8
unfolding shade_at
cell-shades t shades bank j ty tx cell e z p q r =
    tab-ext _ _ 8 (λ k g. rw (same-column t.columns80 t.x j k z g, place-in-cell t.columns80 t.x j k z g, ← p, ← q, ← r))

-- the row before any cell is written
pub row-none : (f : ℕ → ℕ) (out : List ℕ) → out ≡ tab f 0 ++ drop 0 out
row-none f out = rw (← tab-none f)

-- the cell from j on is written into what is right below j
pub row-part : (f : ℕ → ℕ) (out old p : List ℕ) (j n : ℕ) → out ≡ tab f j ++ drop j old → p ≡ tab (λ (k : ℕ). f (j + k)) 8 → n ≡ 8
    → take j out ++ (p ++ drop n (drop j out)) ≡ tab f (j + 8) ++ drop (j + 8) old
row-part f out old p j n e q s =
    rw (e, take_at (tab f j) (drop j old) j (length-tab f j), drop_at (tab f j) (drop j old) j (length-tab f j), q, s, drop-drop 8 j old, tab-join f j 8, append_assoc)

-- all cells are written
pub row_done : (t : TileSetup) (shades bank : List ℕ) (y ty j : ℕ) (out old : List ℕ) → ty ≡ ty_of t y → j ≡ row_length t
    → out ≡ tab (λ (k : ℕ). shade_at t shades bank ((t.x / 8 * 8 + k) % width_of t.columns80) ty) j ++ drop j old
    → out ≡ tile_row t shades bank y ++ drop (row_length t) old
unfolding tile_row
row_done t shades bank y ty j out old e q p = rw (← e, ← q) p

-- the row reaches past every x, however far into a cell it starts
row-reaches : (w : Bool) (s x : ℕ) → s < 8 → x < width_of w → s + x < (columns_of w + 1) * 8
row-reaches true s x a h = omega arith
row-reaches false s x a h = omega arith

-- what the layer above reads: the shade of the index at x, with the mark of its entry
pub row_at : (t : TileSetup) (shades bank : List ℕ) (y : ℕ) (rest : List ℕ) (x : ℕ) → x < width_of t.columns80
    → get_or (tile_row t shades bank y ++ rest) (t.x % 8 + x) 0 ≡ get_or shades (tile_index t bank x y) 0 + (tile_entry t bank x y).high % 2 * 1024
unfolding tile_row shade_at shade_from tile_index
row_at t shades bank y rest x h =
    let f : ℕ → ℕ = λ j. shade_at t shades bank ((t.x / 8 * 8 + j) % width_of t.columns80) (ty_of t y) in
    let s : t.x % 8 < 8 = omega arith in
    let l : t.x % 8 + x < row_length t = row-reaches t.columns80 (t.x % 8) x s h in
    let e : t.x / 8 * 8 + (t.x % 8 + x) ≡ x + t.x = omega arith in
    get_or-append (tab f (row_length t)) rest 0 (t.x % 8 + x) (rw length-tab l)
    ∙ get_or-tab f (row_length t) (t.x % 8 + x) l
    ∙ ap (λ (v : ℕ). shade_at t shades bank (v % width_of t.columns80) (ty_of t y)) e
