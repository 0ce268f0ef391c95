-- One cell's step of the packing keeps the progress: with an old definition, with a new one, or past the number allowed.
use mathlib.Core.Path.{◌≡◌, refl, sym, ap, ap₂, ◌∙◌, subst}
use mathlib.Core.List.{List, [], ◌∷◌, ◌++◌}
use mathlib.Core.Logic.{⊎_elim}
use Prim.Native.Nat.{ℕ, suc, ◌+◌, ◌*◌, ◌/◌, ◌%◌, ◌≤◌, ◌<◌}
use native.Mathlib.Nat.{not-suc-le-zero, eq-or-lt_of_le}
use native.Mathlib.Numerals.{add-one}
use native.Mathlib.Omega.{arith}
use lib.ListN.{length, get_or, set, length-append, length-set, get_or-append}
use lib.Seq.{get_or-append_seam, get_or-set_same, get_or-set_other}
use borrow.Author.Tests.{lt-ltb, le-ltb}
use Rattle.lists.specs.Search.{least}
use Rattle.lists.proofs.Search.{least-same, least-here, below}
use Rattle.tilemap_turns.specs.Turns.{column_of, row_of}
use Rattle.pack_classes.specs.Picture.{cell_pixels}
use Rattle.pack_classes.specs.Turned.{turned_into, turn_for, can_make}
use Rattle.pack_classes.proofs.Cells.{Shows, turned-of}
use Rattle.pack_rule.specs.Greedy.{first_maker, def_cells, tile_of, source_of, cell_turn, map_byte}
use Rattle.pack_search.specs.declared.search.Table.{Table}
use Rattle.pack_search.specs.Bounds.{Kept}
use Rattle.pack_entries.specs.Bounds.{Progress}
use Rattle.pack_search.proofs.Listing.{pair-more}

defs-old : (pic : List ℕ) (c : ℕ) → tile_of pic c < length (def_cells pic c) → def_cells pic (suc c) ≡ def_cells pic c
unfolding def_cells tile_of
defs-old pic c l = rw (lt-ltb _ _ l) refl

defs-new : (pic : List ℕ) (c : ℕ) → length (def_cells pic c) ≤ tile_of pic c → def_cells pic (suc c) ≡ def_cells pic c ++ (c ∷ [])
unfolding def_cells tile_of
defs-new pic c l = rw (le-ltb _ _ l) refl

-- an entry's two bytes are stored after those of the entries before it
entry_more : (f : ℕ → ℕ) (map : List ℕ) (c a b : ℕ) → c * 2 + 1 < length map → ((i : ℕ) → i < c * 2 → get_or map i 0 ≡ f i)
    → a ≡ f (c * 2) → b ≡ f (c * 2 + 1)
    → (i : ℕ) → i < suc c * 2 → get_or (set (set map (c * 2) a) (c * 2 + 1) b) i 0 ≡ f i
entry_more f map c a b fits h ha hb i l =
    let w : i ≤ suc (c * 2) = omega arith in
    ⊎_elim
    (λ e.
    let e' : i ≡ c * 2 + 1 = omega (arith, e) in
    subst (λ (j : ℕ). get_or (set (set map (c * 2) a) (c * 2 + 1) b) j 0 ≡ f j) (sym e')
    (get_or-set_same (set map (c * 2) a) (c * 2 + 1) b 0 (simp length-set fits) ∙ hb))
    (λ k.
    let k' : i ≤ c * 2 = omega (arith, k) in
    get_or-set_other (set map (c * 2) a) (c * 2 + 1) i b 0 (omega (arith, k'))
    ∙ ⊎_elim
    (λ e. subst (λ (j : ℕ). get_or (set map (c * 2) a) j 0 ≡ f j) (sym e) (get_or-set_same map (c * 2) a 0 (omega arith) ∙ ha))
    (λ m. get_or-set_other map (c * 2) i a 0 (omega (arith, m)) ∙ h i m)
    (eq-or-lt_of_le k'))
    (eq-or-lt_of_le w)

module _ (pic : List ℕ) (offset : ℕ) (cells : List ℕ) (t : Table) (map : List ℕ) (c : ℕ) (cell : List ℕ) (tile : ℕ) (g : Progress pic offset cells t map c)
    (ec : cell ≡ cell_pixels pic c)
    (here : tile ≡ least (λ k. can_make (get_or t.pixels k []) cell) t.count) where
  source_is : (k : ℕ) → k < t.count → get_or t.pixels k [] ≡ cell_pixels pic (get_or (def_cells pic c) k 0)
  source_is k l = g.taken k l ∙ ap (cell_pixels pic) (g.packed.same k l)

  tile-is : tile ≡ tile_of pic c
  unfolding tile_of first_maker
  tile-is =
      here
      ∙ least-same (λ k. can_make (get_or t.pixels k []) cell) (λ k. can_make (cell_pixels pic (get_or (def_cells pic c) k 0)) (cell_pixels pic c)) t.count
      (λ k l. ap₂ can_make (source_is k l) ec)
      ∙ ap (least (λ k. can_make (cell_pixels pic (get_or (def_cells pic c) k 0)) (cell_pixels pic c))) g.packed.count

  turn-old : (turn : ℕ) → turn ≡ turn_for (get_or t.pixels tile []) cell → tile < t.count → turn ≡ cell_turn pic c
  unfolding cell_turn source_of
  turn-old turn et l =
      let w : tile_of pic c < length (def_cells pic c) = omega (arith, l, tile-is, g.packed.count) in
      et
      ∙ ap₂ turn_for
      (source_is tile l ∙ ap₂ (λ (ds : List ℕ) (k : ℕ). cell_pixels pic (get_or ds k 0)) (sym (defs-old pic c w)) tile-is) ec

  turn-new : t.count ≡ tile → 0 ≡ cell_turn pic c
  unfolding cell_turn source_of turn_for Shows column_of row_of
  turn-new l =
      let w : length (def_cells pic c) ≤ tile_of pic c = omega (arith, l, tile-is, g.packed.count) in
      let e : tile_of pic c ≡ length (def_cells pic c) = omega (arith, l, tile-is, g.packed.count) in
      least-here (turned_into (cell_pixels pic c) (cell_pixels pic c)) 8 0 (omega arith) (λ i k. absurd (not-suc-le-zero k)) (turned-of pic c c 0 (λ x y h k. refl))
      ∙ ap (λ (d : ℕ). turn_for (cell_pixels pic d) (cell_pixels pic c))
      (sym (ap₂ (λ (ds : List ℕ) (k : ℕ). get_or ds k 0) (defs-new pic c w) e ∙ get_or-append_seam (def_cells pic c) c [] 0))

  entry-tile : map_byte pic offset (c * 2) ≡ tile_of pic c
  unfolding map_byte
  entry-tile = let e : c * 2 % 2 ≡ 0 = omega arith in let h : c * 2 / 2 ≡ c = omega arith in rw (e, h) refl

  entry-turn : map_byte pic offset (c * 2 + 1) ≡ offset * 16 + cell_turn pic c * 2
  unfolding map_byte
  entry-turn = let e : (c * 2 + 1) % 2 ≡ 1 = omega arith in let h : (c * 2 + 1) / 2 ≡ c = omega arith in rw (e, h) refl

  -- with an old definition
  pub step-old : (turn : ℕ) → turn ≡ turn_for (get_or t.pixels tile []) cell → (map' : List ℕ)
      → map' ≡ set (set map (c * 2) tile) (c * 2 + 1) (offset * 16 + turn * 2) → c < 1280 → tile < t.count
      → Progress pic offset cells t map' (suc c)
  step-old turn et map' em lc l =
      let w : tile_of pic c < length (def_cells pic c) = omega (arith, l, tile-is, g.packed.count) in
      let q = g.packed in
      record {
        packed = record {
          cells-length = q.cells-length;
          map-length = rw em (simp length-set q.map-length);
          some_left = q.some_left;
          count = q.count ∙ ap length (sym (defs-old pic c w));
          same = λ k h. q.same k h ∙ ap (λ (ds : List ℕ). get_or ds k 0) (sym (defs-old pic c w));
          mapped =
              rw em
              (entry_more (map_byte pic offset) map c tile (offset * 16 + turn * 2) (omega (arith, q.map-length, lc)) q.mapped
              (tile-is ∙ sym entry-tile) (ap (λ (v : ℕ). offset * 16 + v * 2) (turn-old turn et l) ∙ sym entry-turn));
        };
        kept = g.kept;
        taken = g.taken;
      }

  -- with a new one
  step-counted : (t' : Table) (map' : List ℕ) → t'.pixels ≡ set t.pixels t.count cell → t'.count ≡ t.count + 1 → Kept t'
      → map' ≡ set (set map (c * 2) t.count) (c * 2 + 1) (offset * 16 + 0 * 2) → c < 1280 → t.count ≡ tile → t.count < 256
      → Progress pic offset (set cells t.count c) t' map' (suc c)
  step-counted t' map' ep en kept' em lc l f =
      let w : length (def_cells pic c) ≤ tile_of pic c = omega (arith, l, tile-is, g.packed.count) in
      let e = defs-new pic c w in
      let q = g.packed in
      let m : t'.count ≡ suc t.count = en ∙ add-one t.count in
      record {
        packed = record {
          cells-length = simp length-set q.cells-length;
          map-length = rw em (simp length-set q.map-length);
          some_left = omega (arith, f, m);
          count = omega (arith, m, q.count, ap length e, length-append (def_cells pic c) (c ∷ []));
          same =
              rw m
              (below (λ k. get_or (set cells t.count c) k 0 ≡ get_or (def_cells pic (suc c)) k 0) t.count
              (λ k h.
              get_or-set_other cells t.count k c 0 (omega (arith, h)) ∙ q.same k h
              ∙ sym (ap (λ (ds : List ℕ). get_or ds k 0) e ∙ get_or-append (def_cells pic c) (c ∷ []) 0 k (omega (arith, h, q.count))))
              (get_or-set_same cells t.count c 0 (omega (arith, f, q.cells-length))
              ∙ sym (ap₂ (λ (ds : List ℕ) (k : ℕ). get_or ds k 0) e q.count ∙ get_or-append_seam (def_cells pic c) c [] 0)));
          mapped =
              rw em
              (entry_more (map_byte pic offset) map c t.count (offset * 16 + 0 * 2) (omega (arith, q.map-length, lc)) q.mapped
              (omega (arith, l, tile-is, entry-tile)) (omega (arith, turn-new l, entry-turn)));
        };
        kept = kept';
        taken =
            rw (m, ep)
            (pair-more (cell_pixels pic) cells t.pixels t.count c 0 cell [] (omega (arith, f, q.cells-length)) (omega (arith, f, g.kept.listed.pixels-length)) ec
            g.taken);
      }

  pub step-new : (n : ℕ) → n ≡ t.count → (t' : Table) (map' : List ℕ) → t'.pixels ≡ set t.pixels t.count cell → t'.count ≡ t.count + 1 → Kept t'
      → map' ≡ set (set map (c * 2) n) (c * 2 + 1) (offset * 16 + 0 * 2) → c < 1280 → t.count ≡ tile → t.count < 256
      → Progress pic offset (set cells n c) t' map' (suc c)
  step-new n h t' map' ep en kept' em lc l f = rw h (step-counted t' map' ep en kept' (rw h at em) lc l f)

  -- past the number allowed
  pub step-too-many : t.count ≡ tile → t.count < length (def_cells pic (suc c))
  step-too-many l =
      let w : length (def_cells pic c) ≤ tile_of pic c = omega (arith, l, tile-is, g.packed.count) in
      omega (arith, g.packed.count, ap length (defs-new pic c w), length-append (def_cells pic c) (c ∷ []))

-- before the first cell
pub start : (pic : List ℕ) (offset : ℕ) (cells : List ℕ) (t : Table) (map : List ℕ) → t.count ≡ 0 → Kept t → length cells ≡ 256 → length map ≡ 2560
    → Progress pic offset cells t map 0
unfolding def_cells
start pic offset cells t map e kept lc l =
    record {
      packed = record {
        cells-length = lc;
        map-length = l;
        some_left = omega (arith, e);
        count = e;
        same = λ k h. absurd (omega (arith, h, e));
        mapped = λ i h. absurd (omega (arith, h));
      };
      kept = kept;
      taken = λ k h. absurd (omega (arith, h, e));
    }
