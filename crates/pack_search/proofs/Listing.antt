-- The listed cells: one more is listed with its transpose, its mark and its slot; an empty slot means that none can be turned into
-- a cell, and one that can is the only one, since two would be turned into each other.
use mathlib.Core.Path.{◌≡◌, refl, sym, ap, ◌∙◌, subst}
use mathlib.Core.List.{List, []}
use mathlib.Core.Bool.{Bool, true, false}
use Prim.Native.Nat.{ℕ, suc, ◌+◌, ◌-◌, ◌%◌, ◌<◌}
use native.Mathlib.Numerals.{add-one}
use native.Mathlib.Omega.{arith}
use lib.Dec.{eqb}
use lib.ListN.{length, get_or, set, length-set}
use lib.Seq.{get_or-set_same, get_or-set_other}
use borrow.Author.Tests.{eqb-true, eqb-false, lt-ltb}
use Rattle.lists.specs.Search.{least}
use Rattle.lists.proofs.Search.{below, least-found, least-here, least-none, not-both}
use Rattle.pack_classes.specs.Turned.{turn_for, can_make}
use Rattle.pack_classes.specs.Mark.{mark_of}
use Rattle.pack_turns.specs.Rows.{transpose_of}
use Rattle.pack_classes.proofs.Cells.{can-both}
use Rattle.pack_classes.proofs.Kept.{mark_made}
use Rattle.pack_search.specs.declared.search.Match.{Match}
use Rattle.pack_search.specs.Bounds.{Listed, Slotted, Makes}

-- an element stored in each of two lists, of which the second is f of the first
pub pair-more : {A B : Type 0} (f : A → B) (xs : List A) (ys : List B) (n : ℕ) (x d : A) (y e : B) → n < length xs → n < length ys
    → y ≡ f x → ((k : ℕ) → k < n → get_or ys k e ≡ f (get_or xs k d))
    → (k : ℕ) → k < suc n → get_or (set ys n y) k e ≡ f (get_or (set xs n x) k d)
pair-more f xs ys n x d y e hx hy q h =
    below (λ k. get_or (set ys n y) k e ≡ f (get_or (set xs n x) k d)) n
    (λ k l. get_or-set_other ys n k y e (omega (arith, l)) ∙ h k l ∙ ap f (sym (get_or-set_other xs n k x d (omega (arith, l)))))
    (get_or-set_same ys n y e hy ∙ q ∙ ap f (sym (get_or-set_same xs n x d hx)))

pub listed_more : (pixels transposes : List (List ℕ)) (marks : List ℕ) (n : ℕ) (cell transposed : List ℕ) (m : ℕ) → Listed pixels transposes marks n → n < 256
    → transposed ≡ transpose_of cell → m ≡ mark_of cell → Listed (set pixels n cell) (set transposes n transposed) (set marks n m) (n + 1)
listed_more pixels transposes marks n cell transposed m q l eo em =
    let hp : n < length pixels = omega (arith, q.pixels-length) in
    rw (add-one n)
    (record {
      pixels-length = simp length-set q.pixels-length;
      transposes-length = simp length-set q.transposes-length;
      marks-length = simp length-set q.marks-length;
      some_left = omega (arith, l);
      transpose-is = pair-more transpose_of pixels transposes n cell [] transposed [] hp (omega (arith, q.transposes-length)) eo q.transpose-is;
      mark-is = pair-more mark_of pixels marks n cell [] m 0 hp (omega (arith, q.marks-length)) em q.mark-is;
    })

-- a used slot stays used
still-used : (slots : List ℕ) (s v i : ℕ) → s < length slots → 0 < v → 0 < get_or slots i 0 → 0 < get_or (set slots s v) i 0
still-used slots s v i h l u = go (eqb i s) refl
  where
    go : (b : Bool) → eqb i s ≡ b → 0 < get_or (set slots s v) i 0
    go true e = rw (eqb-true i s e, get_or-set_same slots s v 0 h) l
    go false e = rw (get_or-set_other slots s i v 0 (eqb-false i s e)) u

-- what a slot holds of the one before it is of no account
pub slotted-older : (pixels : List (List ℕ)) (slots : List ℕ) (n h o : ℕ) → Slotted pixels slots n → Slotted pixels (set slots (h + 4096) o) n
slotted-older pixels slots n h o q =
    record {
      slots_length = simp length-set q.slots_length;
      used = λ k l. rw (get_or-set_other slots (h + 4096) (mark_of (get_or pixels k []) % 4096) o 0 (λ e. omega (arith, e))) (q.used k l);
      apart = q.apart;
    }

module _ (pixels : List (List ℕ)) (slots : List ℕ) (n : ℕ) (cell : List ℕ) (q : Slotted pixels slots n) where
  pub slotted-more : (s v : ℕ) → length pixels ≡ 256 → n < 256 → s ≡ mark_of cell % 4096 → 0 < v
      → n ≡ least (λ k. can_make (get_or pixels k []) cell) n → Slotted (set pixels n cell) (set slots s v) (n + 1)
  slotted-more s v hp l es hv none =
      let hs : s < length slots = omega (arith, q.slots_length) in
      let at : get_or (set pixels n cell) n [] ≡ cell = get_or-set_same pixels n cell [] (omega arith) in
      let old : (k : ℕ) → k < n → get_or (set pixels n cell) k [] ≡ get_or pixels k [] = λ k g. get_or-set_other pixels n k cell [] (omega (arith, g)) in
      rw (add-one n)
      (record {
        slots_length = simp length-set q.slots_length;
        used =
            below (λ k. 0 < get_or (set slots s v) (mark_of (get_or (set pixels n cell) k []) % 4096) 0) n
            (λ k g. rw (old k g) (still-used slots s v (mark_of (get_or pixels k []) % 4096) hs hv (q.used k g)))
            (rw (at, ← es, get_or-set_same slots s v 0 hs) hv);
        apart = λ j k g h.
            below (λ k. (j : ℕ) → j < k → can_make (get_or (set pixels n cell) j []) (get_or (set pixels n cell) k []) ≡ false) n
            (λ k m j g. rw (old j (omega (arith, g, m)), old k m) (q.apart j k g m))
            (λ j g. rw (old j g, at) ((least-found (λ k. can_make (get_or pixels k []) cell) n).before j (omega (arith, g, none)))) k h j g;
      })

  -- the slot of its mark is empty
  pub made-by-none : (m : ℕ) → m ≡ mark_of cell → get_or slots (m % 4096) 0 ≡ 0 → n ≡ least (λ k. can_make (get_or pixels k []) cell) n
  made-by-none m em z = least-none (λ k. can_make (get_or pixels k []) cell) n (λ k l. go k l (can_make (get_or pixels k []) cell) refl)
    where
      go : (k : ℕ) → k < n → (b : Bool) → can_make (get_or pixels k []) cell ≡ b → b ≡ false
      go k l true e =
          let u : 0 < get_or slots (m % 4096) 0 = subst (λ (i : ℕ). 0 < get_or slots (i % 4096) 0) (mark_made (get_or pixels k []) cell e ∙ sym em) (q.used k l) in
          absurd (omega (arith, u, z))
      go k l false e = refl

  -- a listed cell that can be turned into it is the first
  pub made_by : (k : ℕ) → k < n → can_make (get_or pixels k []) cell ≡ true → k ≡ least (λ k. can_make (get_or pixels k []) cell) n
  made_by k l e = least-here (λ k. can_make (get_or pixels k []) cell) n k l (λ j h. go j h (can_make (get_or pixels j []) cell) refl) e
    where
      go : (j : ℕ) → j < k → (b : Bool) → can_make (get_or pixels j []) cell ≡ b → b ≡ false
      go j h true f = absurd (not-both (can-both (get_or pixels j []) (get_or pixels k []) cell f e) (q.apart j k h l))
      go j h false f = refl

  -- and where a slot holds it, it is what is found
  pub found-by : (p : Match) → Makes pixels cell n p → (p.tile ≡ least (λ k. can_make (get_or pixels k []) cell) n) × Makes pixels cell n p
  unfolding can_make turn_for
  found-by p m =
      let e : turn_for (get_or pixels p.tile []) cell < 8 = rw m.turn_is at m.turn_small in
      (made_by p.tile m.listed (lt-ltb _ 8 e), m)
