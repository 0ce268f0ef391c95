-- The 32 bytes of a definition: those of its cell, or 0.
use mathlib.Core.Path.{◌≡◌, sym}
use mathlib.Core.List.{List}
use Prim.Native.Nat.{ℕ, ◌+◌, ◌*◌, ◌/◌, ◌%◌, ◌≤◌, ◌<◌}
use native.Mathlib.Omega.{arith}
use lib.ListN.{get_or}
use borrow.Author.Tests.{lt-ltb, le-ltb}
use Rattle.lists.specs.Tab.{tab}
use Rattle.lists.proofs.Tab.{tab-ext}
use Rattle.pack_classes.specs.Picture.{cell_byte}
use Rattle.pack_rule.specs.Greedy.{def_cells, tile_count, def_byte}

module _ (pic : List ℕ) (d : ℕ) where
  pub used : (c : ℕ) → d < tile_count pic → c ≡ get_or (def_cells pic 1280) d 0 → tab (cell_byte pic c) 32 ≡ tab (λ (k : ℕ). def_byte pic (d * 32 + k)) 32
  unfolding def_byte
  used c l e =
      tab-ext _ _ 32
      (λ k h.
      let q : (d * 32 + k) / 32 ≡ d = omega arith in
      let m : (d * 32 + k) % 32 ≡ k = omega arith in
      sym (rw (q, m, lt-ltb d (tile_count pic) l, ← e)))

  pub unused : (n : ℕ) → tile_count pic ≤ d → n ≡ 32 → tab (λ (k : ℕ). 0) n ≡ tab (λ (k : ℕ). def_byte pic (d * 32 + k)) 32
  unfolding def_byte
  unused n l e =
      rw e
      (tab-ext _ _ 32
      (λ k h. let q : (d * 32 + k) / 32 ≡ d = omega arith in sym (rw (q, le-ltb d (tile_count pic) l))))
