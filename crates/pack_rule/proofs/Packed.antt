-- The packing draws its picture, however it is set in a bank, and names as few tiles as any map that does.
use mathlib.Core.Path.{◌≡◌, refl, sym, ap, ap₂, ◌∙◌}
use mathlib.Core.List.{List, [], ◌∷◌}
use mathlib.Core.Bool.{Bool, true, false, cond}
use Prim.Native.Nat.{ℕ, zero, suc, ◌+◌, ◌*◌, ◌/◌, ◌%◌, ◌≤◌, ◌<◌}
use native.Mathlib.Nat.{le_antisymm}
use native.Mathlib.Omega.{arith}
use lib.Dec.{ltb, eqb}
use lib.ListN.{length, get_or}
use borrow.Author.Tests.{eq-eqb, ltb-true, lt-ltb}
use Rattle.lists.specs.Search.{firsts}
use Rattle.lists.proofs.Search.{some_of, firsts-fewer}
use Rattle.lists.specs.Tab.{tab}
use Rattle.lists.proofs.Tab.{length-tab, get_or-tab}
use Rattle.lists.specs.Bytes.{Bytes}
use Rattle.tilemap_turns.specs.Turns.{column_of, row_of, half_of}
use Rattle.pack_classes.specs.Picture.{pixel_of, cell_pixel, cell_byte}
use Rattle.pack_classes.specs.Turned.{can_turn, classes}
use Rattle.pack_classes.proofs.Group.{column-small, row_small}
use Rattle.pack_classes.proofs.Cells.{Shows, pixel-half, turned-is}
use Rattle.pack_rule.specs.Sheet.{low_byte, high_byte, named, sheet_index}
use Rattle.pack_rule.specs.Greedy.{first_maker, def_cells, tile_count, tile_of, source_of, cell_turn, map_byte, def_byte, packed_map, packed_defs}
use Rattle.pack_rule.specs.Answer.{Setting, Fewest}
use Rattle.lists.proofs.Bytes.{bytes-none, bytes-one-more, bytes-append}
use Rattle.pack_rule.proofs.Banked.{read, setting}
use Rattle.pack_rule.proofs.Lower.{Direct, direct, def_pixel, lower}
use Rattle.pack_rule.proofs.Greedy.{grows, keeps, cells-below, source, turn-for, old, counted, tile-of-def}

cond_below : (b : Bool) (x y : ℕ) → x < 256 → y < 256 → cond b x y < 256
cond_below true x y h k = h
cond_below false x y h k = k

bytes-tab : (f : ℕ → ℕ) (n : ℕ) → ((i : ℕ) → i < n → f i < 256) → Bytes (tab f n)
unfolding tab
bytes-tab f zero h = λ i. omega arith
bytes-tab f (suc n) h = bytes-append (tab f n) (f n ∷ []) (bytes-tab f n (λ i l. h i (omega (arith, l)))) (bytes-one-more (f n) [] (h n (omega arith)) bytes-none)

module _ (pic : List ℕ) (offset : ℕ) where
  pub tile-number : (c : ℕ) → c < 1280 → low_byte (packed_map pic offset) c ≡ tile_of pic c
  unfolding low_byte packed_map map_byte
  tile-number c l =
      let even : c * 2 % 2 ≡ 0 = omega arith in
      let half : c * 2 / 2 ≡ c = omega arith in
      get_or-tab (map_byte pic offset) 2560 (c * 2) (omega arith) ∙ rw (even, half) refl

  pub attribute-is : (c : ℕ) → c < 1280 → high_byte (packed_map pic offset) c ≡ offset * 16 + cell_turn pic c * 2
  unfolding high_byte packed_map map_byte
  attribute-is c l =
      let odd : (c * 2 + 1) % 2 ≡ 1 = omega arith in
      let half : (c * 2 + 1) / 2 ≡ c = omega arith in
      get_or-tab (map_byte pic offset) 2560 (c * 2 + 1) (omega arith) ∙ rw (odd, half) refl

module _ (pic : List ℕ) (fits : tile_count pic ≤ 256) where
  -- a definition's pixels are those of the cell it was taken from
  pub def_is : (n x y : ℕ) → n < tile_count pic → x < 8 → y < 8 → def_pixel (packed_defs pic) n x y ≡ cell_pixel pic (get_or (def_cells pic 1280) n 0) x y
  unfolding packed_defs def_byte
  def_is n x y l h k =
      let at : (n * 32 + y * 4 + x / 2) / 32 ≡ n = omega arith in
      let rest : (n * 32 + y * 4 + x / 2) % 32 ≡ y * 4 + x / 2 = omega arith in
      ap (half_of x) (get_or-tab (def_byte pic) 8192 (n * 32 + y * 4 + x / 2) (omega arith) ∙ rw (at, rest, lt-ltb n (tile_count pic) l) refl)
      ∙ sym (pixel-half pic (get_or (def_cells pic 1280) n 0) x y h)

module _ (pic : List ℕ) (offset : ℕ) where
  -- the map names as many tiles as there are classes
  upper : firsts (λ i j. eqb (low_byte (packed_map pic offset) i) (low_byte (packed_map pic offset) j)) 1280 ≤ firsts (can_turn pic) 1280
  unfolding tile_of first_maker
  upper =
      firsts-fewer (λ i j. eqb (low_byte (packed_map pic offset) i) (low_byte (packed_map pic offset) j)) (can_turn pic) 1280
      (λ j l e.
      let n = tile_of pic j in
      let k : n < length (def_cells pic j) = ltb-true n (length (def_cells pic j)) (old pic j ∙ e) in
      let d = get_or (def_cells pic j) n 0 in
      let b : d < j = cells-below pic j n k in
      some_of (λ i. eqb (low_byte (packed_map pic offset) i) (low_byte (packed_map pic offset) j)) j d b
      (eq-eqb _ _ (tile-number pic offset d (omega arith) ∙ tile-of-def pic j n k ∙ sym (tile-number pic offset j l))))

-- a picture's pixel is its cell's
whole : (pic : List ℕ) (x y : ℕ) → x < 320 → y < 256 → cell_pixel pic (y / 8 * 40 + x / 8) (x % 8) (y % 8) ≡ pixel_of pic x y
unfolding cell_pixel
whole pic x y h k =
    let e1 : (y / 8 * 40 + x / 8) % 40 * 8 + x % 8 ≡ x = omega arith in
    let e2 : (y / 8 * 40 + x / 8) / 40 * 8 + y % 8 ≡ y = omega arith in
    ap₂ (pixel_of pic) e1 e2

module _ (pic : List ℕ) (offset : ℕ) (fits : tile_count pic ≤ 256) where
  -- a cell is its definition turned
  shown : (c : ℕ) → c < 1280 → Shows pic c (def_pixel (packed_defs pic) (tile_of pic c)) (cell_turn pic c)
  unfolding Shows source_of
  shown c l x y h k =
      let t = turn-for pic c in
      let s = source pic c in
      turned-is pic (source_of pic c) c (cell_turn pic c) t.1 x y h k
      ∙ ap (λ (d : ℕ). cell_pixel pic d (column_of (cell_turn pic c) x y) (row_of (cell_turn pic c) x y)) (sym (keeps pic (suc c) 1280 l (tile_of pic c) s.there))
      ∙ sym (def_is pic fits (tile_of pic c) _ _ (omega (arith, s.there, grows pic (suc c) 1280 l)) (column-small (cell_turn pic c) x y h k) (row_small (cell_turn pic c) x y h k))

  drawn : Direct pic offset (packed_map pic offset) (packed_defs pic)
  unfolding sheet_index Shows
  drawn x y h k =
      let c = y / 8 * 40 + x / 8 in
      let l : c < 1280 = omega arith in
      let t = (turn-for pic c).0 in
      let e1 : (offset * 16 + cell_turn pic c * 2) / 16 * 16 ≡ offset * 16 = omega arith in
      let e2 : (offset * 16 + cell_turn pic c * 2) / 2 % 8 ≡ cell_turn pic c = omega arith in
      rw (tile-number pic offset c l, attribute-is pic offset c l, e1, e2)
      (ap (λ (v : ℕ). offset * 16 + v) (sym (shown c l (x % 8) (y % 8) (omega arith) (omega arith)) ∙ whole pic x y h k))

  -- its bytes
  map-bytes : offset ≤ 15 → Bytes (packed_map pic offset)
  unfolding packed_map map_byte
  map-bytes o =
      bytes-tab (map_byte pic offset) 2560
      (λ i l.
      cond_below (eqb (i % 2) 0) _ _ (omega (arith, (source pic (i / 2)).there, grows pic (suc (i / 2)) 1280 (omega (arith, l))))
      (omega (arith, (turn-for pic (i / 2)).0)))

  def-bytes : Bytes pic → Bytes (packed_defs pic)
  unfolding packed_defs def_byte cell_byte
  def-bytes h = bytes-tab (def_byte pic) 8192 (λ i l. cond_below (ltb (i / 32) (tile_count pic)) _ _ (h _) (omega arith))

  in-a-bank : offset ≤ 15 → Bytes pic → Setting (packed_map pic offset) (packed_defs pic)
  unfolding packed_map packed_defs
  in-a-bank o bytes =
      setting (packed_map pic offset) (packed_defs pic) (length-tab (map_byte pic offset) 2560) (length-tab (def_byte pic) 8192) (map-bytes o) (def-bytes bytes)

  -- demand 3 of the packing
  pub fewest-here : offset ≤ 15 → Bytes pic → Fewest pic offset (tile_count pic) (packed_map pic offset) (packed_defs pic)
  unfolding named classes
  fewest-here o bytes =
      record {
        draws = λ bank attribute mb db s x y h k. read _ _ bank attribute mb db s x y h k ∙ drawn x y h k;
        setting = in-a-bank o bytes;
        counts = sym (le_antisymm (upper pic offset) (lower pic offset _ _ drawn) ∙ sym (counted pic 1280));
        fewest = λ others theirs d. rw (counted pic 1280) (lower pic offset others theirs (direct pic offset others theirs d));
      }
