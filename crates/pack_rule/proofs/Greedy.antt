-- The packing's definitions: how many they are, that each cell is one of them turned, and that the definition of a tile
-- number was taken from a cell with that number. By induction on the cells taken.
use mathlib.Core.Path.{◌≡◌, refl, sym, ap₂, ◌∙◌, subst}
use mathlib.Core.List.{List, [], ◌∷◌, ◌++◌}
use mathlib.Core.Bool.{Bool, true, false, cond}
use mathlib.Core.Logic.{⊎_elim}
use Prim.Native.Nat.{ℕ, zero, suc, ◌≤◌, ◌<◌}
use native.Mathlib.Nat.{le_refl, not-suc-le-zero, eq-or-lt_of_le}
use native.Mathlib.Decide.{le_ind}
use native.Mathlib.Omega.{arith}
use lib.Dec.{ltb}
use lib.ListN.{length, get_or, length-append, get_or-append}
use lib.Seq.{get_or-append_seam}
use borrow.Author.Tests.{ltb-true, ltb-false}
use Rattle.lists.specs.Search.{some, firsts}
use Rattle.lists.proofs.Search.{Found, least-found, some_of, some_at}
use Rattle.pack_classes.specs.Picture.{cell_pixels}
use Rattle.pack_classes.specs.Turned.{turned_into, turn_for, can_make, can_turn}
use Rattle.pack_classes.proofs.Cells.{bool_same, can-self, can-trans}
use Rattle.pack_rule.specs.Greedy.{first_maker, def_cells, tile_of, source_of, cell_turn}

-- what a step keeps
module _ (ds : List ℕ) (c : ℕ) where
  kept-length : (b : Bool) → length ds ≤ length (cond b ds (ds ++ (c ∷ [])))
  kept-length true = le_refl _
  kept-length false = omega (arith, length-append ds (c ∷ []))

  kept_at : (b : Bool) (n : ℕ) → n < length ds → get_or (cond b ds (ds ++ (c ∷ []))) n 0 ≡ get_or ds n 0
  kept_at true n l = refl
  kept_at false n l = get_or-append ds (c ∷ []) 0 n l

-- what holds of each element, at its place, and of one more at the end
pub snoc : (P : ℕ → ℕ → Type 0) (ds : List ℕ) (c : ℕ) → ((n : ℕ) → n < length ds → P n (get_or ds n 0)) → P (length ds) c
    → (n : ℕ) → n < length (ds ++ (c ∷ [])) → P n (get_or (ds ++ (c ∷ [])) n 0)
snoc P ds c h here n l =
    let w : n ≤ length ds = omega (arith, l, length-append ds (c ∷ [])) in
    ⊎_elim
    (λ e. subst (λ (m : ℕ). P m (get_or (ds ++ (c ∷ [])) m 0)) (sym e) (subst (P (length ds)) (sym (get_or-append_seam ds c [] 0)) here))
    (λ k. subst (P n) (sym (get_or-append ds (c ∷ []) 0 n k)) (h n k)) (eq-or-lt_of_le w)

module _ (pic : List ℕ) where
  pub grows : (c m : ℕ) → c ≤ m → length (def_cells pic c) ≤ length (def_cells pic m)
  unfolding def_cells
  grows c m h =
      le_ind (λ m. length (def_cells pic c) ≤ length (def_cells pic m)) (le_refl _)
      (λ m l e. omega (arith, e, kept-length (def_cells pic m) m (ltb (first_maker pic (def_cells pic m) m) (length (def_cells pic m))))) m h

  pub keeps : (c m : ℕ) → c ≤ m → (n : ℕ) → n < length (def_cells pic c) → get_or (def_cells pic m) n 0 ≡ get_or (def_cells pic c) n 0
  unfolding def_cells
  keeps c m h =
      le_ind (λ m. (n : ℕ) → n < length (def_cells pic c) → get_or (def_cells pic m) n 0 ≡ get_or (def_cells pic c) n 0) (λ n l. refl)
      (λ m k e n l.
      kept_at (def_cells pic m) m (ltb (first_maker pic (def_cells pic m) m) (length (def_cells pic m))) n (omega (arith, l, grows c m k))
      ∙ e n l) m h

  -- a definition was taken from an earlier cell
  below_step : (ds : List ℕ) (c : ℕ) (b : Bool) → ((n : ℕ) → n < length ds → get_or ds n 0 < c)
      → (n : ℕ) → n < length (cond b ds (ds ++ (c ∷ []))) → get_or (cond b ds (ds ++ (c ∷ []))) n 0 < suc c
  below_step ds c true h n l = omega (arith, h n l)
  below_step ds c false h n l = snoc (λ n v. v < suc c) ds c (λ n l. omega (arith, h n l)) (le_refl (suc c)) n l

  pub cells-below : (c n : ℕ) → n < length (def_cells pic c) → get_or (def_cells pic c) n 0 < c
  unfolding def_cells
  cells-below zero n l = absurd (not-suc-le-zero l)
  cells-below (suc c) n l = below_step (def_cells pic c) c (ltb (first_maker pic (def_cells pic c) c) (length (def_cells pic c))) (cells-below c) n l

  -- the definition of cell c, among those of the cells below suc c
  pub record Source (ds : List ℕ) (c n : ℕ) : Type 0 where
    pub there : n < length ds
    pub turns : can_turn pic (get_or ds n 0) c ≡ true

  source-step : (ds : List ℕ) (c r : ℕ) → Found (λ n. can_turn pic (get_or ds n 0) c) (length ds) r → (b : Bool) → ltb r (length ds) ≡ b
      → Source (cond b ds (ds ++ (c ∷ []))) c r
  source-step ds c r f true e = record { there = ltb-true _ _ e; turns = f.here (ltb-true _ _ e) }
  source-step ds c r f false e =
      let same : r ≡ length ds = omega (arith, ltb-false r (length ds) e, f.inside-or-end) in
      record {
        there = omega (arith, length-append ds (c ∷ []));
        turns = rw (same, get_or-append_seam ds c [] 0) (can-self pic c);
      }

  pub source : (c : ℕ) → Source (def_cells pic (suc c)) c (tile_of pic c)
  unfolding def_cells tile_of first_maker
  source c =
      source-step (def_cells pic c) c (first_maker pic (def_cells pic c) c) (least-found (λ n. can_turn pic (get_or (def_cells pic c) n 0) c) (length (def_cells pic c)))
      (ltb (first_maker pic (def_cells pic c) c) (length (def_cells pic c))) refl

  pub turn-for : (c : ℕ) → (cell_turn pic c < 8) × (turned_into (cell_pixels pic (source_of pic c)) (cell_pixels pic c) (cell_turn pic c) ≡ true)
  unfolding cell_turn source_of turn_for can_make
  turn-for c =
      let h = ltb-true _ 8 (source c).turns in
      (h, (least-found (turned_into (cell_pixels pic (source_of pic c)) (cell_pixels pic c)) 8).here h)

  -- each cell below c can be made from a definition of those
  pub covered : (c i : ℕ) → i < c → (n : ℕ) × (n < length (def_cells pic c)) × (can_turn pic (get_or (def_cells pic c) n 0) i ≡ true)
  covered c i l = (
    tile_of pic i,
    omega (arith, (source i).there, grows (suc i) c l),
    rw (keeps (suc i) c l (tile_of pic i) (source i).there) (source i).turns,
  )

  -- a cell that a definition, or an earlier cell, can be turned into
  pub old : (c : ℕ) → some (λ n. can_turn pic (get_or (def_cells pic c) n 0) c) (length (def_cells pic c)) ≡ some (λ i. can_turn pic i c) c
  old c =
      bool_same _ _
      (λ h. let w = some_at (λ n. can_turn pic (get_or (def_cells pic c) n 0) c) (length (def_cells pic c)) h in
      some_of (λ i. can_turn pic i c) c (get_or (def_cells pic c) w.0 0) (cells-below c w.0 w.1) w.2)
      (λ h. let w = some_at (λ i. can_turn pic i c) c h in
      let v = covered c w.0 w.1 in
      some_of (λ n. can_turn pic (get_or (def_cells pic c) n 0) c) (length (def_cells pic c)) v.0 v.1 (can-trans pic _ w.0 c v.2 w.2))

  -- the definitions are as many as the classes
  count-step : (ds : List ℕ) (c : ℕ) (b : Bool) → length (cond b ds (ds ++ (c ∷ []))) ≡ cond b (length ds) (suc (length ds))
  count-step ds c true = refl
  count-step ds c false = omega (arith, length-append ds (c ∷ []))

  pub counted : (c : ℕ) → length (def_cells pic c) ≡ firsts (can_turn pic) c
  unfolding def_cells firsts first_maker
  counted zero = refl
  counted (suc c) =
      count-step (def_cells pic c) c (ltb (first_maker pic (def_cells pic c) c) (length (def_cells pic c)))
      ∙ ap₂ (λ (b : Bool) (m : ℕ). cond b m (suc m)) (old c) (counted c)

  -- the definition n was taken from a cell whose tile is n
  tile-step : (ds : List ℕ) (c : ℕ) (b : Bool) → ltb (tile_of pic c) (length ds) ≡ b → tile_of pic c ≤ length ds
      → ((n : ℕ) → n < length ds → tile_of pic (get_or ds n 0) ≡ n)
      → (n : ℕ) → n < length (cond b ds (ds ++ (c ∷ []))) → tile_of pic (get_or (cond b ds (ds ++ (c ∷ []))) n 0) ≡ n
  tile-step ds c true e w h n l = h n l
  tile-step ds c false e w h n l =
      snoc (λ n v. tile_of pic v ≡ n) ds c h (omega (arith, ltb-false (tile_of pic c) (length ds) e, w)) n l

  pub tile-of-def : (c n : ℕ) → n < length (def_cells pic c) → tile_of pic (get_or (def_cells pic c) n 0) ≡ n
  unfolding def_cells tile_of first_maker
  tile-of-def zero n l = absurd (not-suc-le-zero l)
  tile-of-def (suc c) n l =
      tile-step (def_cells pic c) c (ltb (tile_of pic c) (length (def_cells pic c))) refl
      (least-found (λ n. can_turn pic (get_or (def_cells pic c) n 0) c) (length (def_cells pic c))).inside-or-end (tile-of-def c) n l
