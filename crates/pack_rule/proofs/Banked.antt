-- In every setting the tilemap rule gives what is read directly from map and definitions, and every map and definitions
-- can be set in a bank. The bank is read only by the law that a byte fetched below 16,384 is the bank's.
use mathlib.Core.Path.{◌≡◌, refl, sym, ap, ◌∙◌}
use mathlib.Core.List.{List, ◌++◌}
use mathlib.Core.Logic.{inl}
use Prim.Native.Nat.{ℕ, ◌+◌, ◌*◌, ◌/◌, ◌%◌, ◌≤◌, ◌<◌}
use native.Mathlib.Omega.{arith}
use native.Mathlib.Nat.{add_assoc}
use lib.ListN.{length, get_or, take, drop, replicate, length-append, length-replicate}
use lib.Seq.{get_or-take, get_or-drop, take_at, drop_at}
use Rattle.lists.specs.Bytes.{Bytes}
use Rattle.lists.proofs.Bytes.{bytes-append, bytes-zeros}
use Rattle.tilemap_entries.specs.Entries.{fetched, entry_address, high_of, entry_at, tile_number}
use Rattle.tilemap_turns.specs.Turns.{turn_of, column_of, half_of}
use Rattle.tilemap_rule.specs.Index.{pixel_at, entry_pixel, tile_index}
use Rattle.tilemap_entries.proofs.Inside.{fetched-inside}
use Rattle.pack_classes.proofs.Group.{column-small, row_small}
use Rattle.pack_rule.specs.Sheet.{low_byte, high_byte, sheet_setup, SetIn, sheet_index}
use Rattle.pack_rule.specs.Answer.{Setting}

-- a byte of a part of the bank
part_at : (bank part : List ℕ) (base n i : ℕ) → take n (drop base bank) ≡ part → i < n → get_or bank (base + i) 0 ≡ get_or part i 0
part_at bank part base n i e l = sym (get_or-take n (drop base bank) i 0 l ∙ get_or-drop base bank i 0) ∙ ap (λ (p : List ℕ). get_or p i 0) e

pub turn_small : (a : ℕ) → turn_of a < 8
turn_small a = omega arith

module _ (map defs bank : List ℕ) (attribute mb db : ℕ) (s : SetIn map defs bank mb db) where
  fetch-at : (part : List ℕ) (base n i : ℕ) → take n (drop base bank) ≡ part → base + n ≤ 16384 → i < n → fetched bank (base + i) ≡ get_or part i 0
  fetch-at part base n i e h l = fetched-inside bank (base + i) (omega (arith, h, l)) ∙ part_at bank part base n i e l

  low-at : (c : ℕ) → c < 1280 → fetched bank (mb + c * 2) ≡ low_byte map c
  unfolding low_byte
  low-at c l = fetch-at map mb 2560 (c * 2) s.map-there s.map-fits (omega arith)

  high-at : (c : ℕ) → c < 1280 → fetched bank (mb + c * 2 + 1) ≡ high_byte map c
  unfolding high_byte
  high-at c l = ap (fetched bank) (add_assoc mb (c * 2) 1) ∙ fetch-at map mb 2560 (c * 2 + 1) s.map-there s.map-fits (omega arith)

  low_small : (c : ℕ) → c < 1280 → low_byte map c < 256
  unfolding low_byte
  low_small c l = rw (← part_at bank map mb 2560 (c * 2) s.map-there (omega arith)) (s.bank-bytes _)

  definition-at : (n u v : ℕ) → n < 256 → u < 8 → v < 8 → fetched bank (db + n * 32 + v * 4 + u / 2) ≡ get_or defs (n * 32 + v * 4 + u / 2) 0
  definition-at n u v hn hu hv =
      let e : db + n * 32 + v * 4 + u / 2 ≡ db + (n * 32 + v * 4 + u / 2) = omega arith in
      ap (fetched bank) e ∙ fetch-at defs db 8192 (n * 32 + v * 4 + u / 2) s.defs-there s.def-fits (omega arith)

  pub read : (x y : ℕ) → x < 320 → y < 256 → tile_index (sheet_setup attribute mb db) bank x y ≡ sheet_index map defs x y
  unfolding tile_index sheet_index entry_at entry_address high_of tile_number entry_pixel pixel_at
  read x y hx hy =
      let c = y / 8 * 40 + x / 8 in
      let l : c < 1280 = omega arith in
      let ex : (x + 0) % 320 ≡ x = omega arith in
      let ey : (y + 0) % 256 ≡ y = omega arith in
      let t = turn_of (high_byte map c) in
      let kx : x % 8 < 8 = omega arith in
      let ky : y % 8 < 8 = omega arith in
      rw (ex, ey, low-at c l, high-at c l)
      (ap (λ (b : ℕ). high_byte map c / 16 * 16 + half_of (column_of t (x % 8) (y % 8)) b)
      (definition-at (low_byte map c) _ _ (low_small c l) (column-small t (x % 8) (y % 8) kx ky) (row_small t (x % 8) (y % 8) kx ky)))

-- the map at 0, the definitions right after it, and zeros
pub setting : (map defs : List ℕ) → length map ≡ 2560 → length defs ≡ 8192 → Bytes map → Bytes defs → Setting map defs
setting map defs lm ld bm bd =
    record {
      bank = map ++ (defs ++ replicate 5632 0);
      map_base = 0;
      def_base = 2560;
      set = record {
        bank-length = omega (arith, length-append map (defs ++ replicate 5632 0), length-append defs (replicate 5632 0), length-replicate {A = ℕ} 5632 0);
        bank-bytes = bytes-append map _ bm (bytes-append defs _ bd (bytes-zeros 5632));
        map-page = refl;
        def-page = refl;
        map-fits = omega arith;
        def-fits = omega arith;
        apart = inl (omega arith);
        map-there = take_at map (defs ++ replicate 5632 0) 2560 lm;
        defs-there = ap (take 8192) (drop_at map (defs ++ replicate 5632 0) 2560 lm) ∙ take_at defs (replicate 5632 0) 8192 ld;
      };
    }
