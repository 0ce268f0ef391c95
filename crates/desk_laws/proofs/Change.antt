-- One seat of a desk changed for number n: opening, closing and a change of the record are each such a change. The desk stays formed, n has
-- what the new seat holds, and every other number has what it had, in the same bytes.
use Prim.Native.Nat.{ℕ, ◌*◌, ◌<◌}
use mathlib.Core.Path.{◌≡◌, refl, sym, ap, ◌∙◌, subst}
use mathlib.Core.Bool.{Bool, true, false}
use mathlib.Core.List.{List}
use lib.ListN.{length, drop}
use lib.Dec.{eqb}
use borrow.Author.Tests.{eqb-true, eqb-false}
use Rattle.lists.specs.Bytes.{Bytes}
use Rattle.lists.specs.Placed.{placed}
use Rattle.lists.proofs.Bytes.{bytes-placed}
use Rattle.lists.proofs.Search.{not-both, least-same}
use Rattle.desk_seats.specs.Seats.{seats, seat_length, seat_at, sits}
use Rattle.desk_places.specs.Desks.{place_of}
use Rattle.desk_seats.proofs.Cuts.{desk-long, seat-here, seat-other}
use Rattle.desk.specs.Own.{Own, away, here}
use Rattle.desk.specs.Desk.{own_of}
use Rattle.desk_laws.proofs.Formed.{GoodSeat, Formed, Where, at, nowhere, where-is, own-nowhere, own_at}

-- e is formed, number n has o of it, and every other number has its seat, byte for byte
pub record Settled (d : List ℕ) (n : ℕ) (o : Own) (e : List ℕ) : Type 0 where
  pub formed : Formed e
  pub own : own_of e n ≡ o
  pub seat : (m : ℕ) → (n ≡ m → ⊥) → (i : ℕ) → i < seats → sits m (seat_at d i) ≡ true → seat_at e i ≡ seat_at d i
  pub place : (m : ℕ) → (n ≡ m → ⊥) → place_of e m ≡ place_of d m
  pub others : (m : ℕ) → (n ≡ m → ⊥) → own_of e m ≡ own_of d m

-- seat p may become s for number n: no other seat is n's, nobody else holds it before or afterwards, and it is a seat
pub record Moves (n : ℕ) (d : List ℕ) (p : ℕ) (s : List ℕ) : Type 0 where
  pub inside : p < seats
  pub bytes : Bytes s
  pub long : length s ≡ seat_length
  pub alone : (j : ℕ) → j < seats → (j ≡ p → ⊥) → sits n (seat_at d j) ≡ false
  pub before : (m : ℕ) → (n ≡ m → ⊥) → sits m (seat_at d p) ≡ false
  pub afterwards : (m : ℕ) → (n ≡ m → ⊥) → sits m s ≡ false
  pub good : GoodSeat s

module _ (n : ℕ) (d : List ℕ) (f : Formed d) (p : ℕ) (s : List ℕ) (mv : Moves n d p s) where
  abbrev e : List ℕ
  e = placed d (p * seat_length) s

  here-is : seat_at e p ≡ s
  here-is = seat-here d f.long p mv.inside s mv.long

  other-is : (j : ℕ) → j < seats → (j ≡ p → ⊥) → seat_at e j ≡ seat_at d j
  other-is = seat-other d f.long p mv.inside s mv.long

  -- what holds of s, and of every other seat of d, holds of every seat of e
  at-seat : (P : List ℕ → Type 0) (j : ℕ) → j < seats → P s → ((j ≡ p → ⊥) → P (seat_at d j)) → P (seat_at e j)
  at-seat P j l x y = go (eqb j p) refl
    where
      go : (b : Bool) → eqb j p ≡ b → P (seat_at e j)
      go true h = subst P (sym (ap (seat_at e) (eqb-true j p h) ∙ here-is)) x
      go false h = subst P (sym (other-is j l (eqb-false j p h))) (y (eqb-false j p h))

  -- who sits on the changed seat sits nowhere else
  only : (m j : ℕ) → j < seats → (j ≡ p → ⊥) → sits m (seat_at e p) ≡ true → sits m (seat_at e j) ≡ true → ⊥
  only m j l ne h k = go (eqb n m) refl
    where
      go : (b : Bool) → eqb n m ≡ b → ⊥
      go true q = not-both (ap (λ (x : ℕ). sits x (seat_at e j)) (eqb-true n m q) ∙ k) (ap (sits n) (other-is j l ne) ∙ mv.alone j l ne)
      go false q = not-both h (ap (sits m) here-is ∙ mv.afterwards m (eqb-false n m q))

  change-formed : Formed e
  change-formed = record {
    bytes = bytes-placed d s (p * seat_length) f.bytes mv.bytes;
    long = desk-long d f.long p mv.inside s mv.long;
    good = λ i l. at-seat GoodSeat i l mv.good (λ ne. f.good i l);
    once = once;
  }
    where
      once : (m i j : ℕ) → i < seats → j < seats → sits m (seat_at e i) ≡ true → sits m (seat_at e j) ≡ true → i ≡ j
      once m i j li lj hi hj = go (eqb i p) refl (eqb j p) refl
        where
          go : (a : Bool) → eqb i p ≡ a → (b : Bool) → eqb j p ≡ b → i ≡ j
          go true x true y = eqb-true i p x ∙ sym (eqb-true j p y)
          go true x false y = absurd (only m j lj (eqb-false j p y) (ap (λ (k : ℕ). sits m (seat_at e k)) (sym (eqb-true i p x)) ∙ hi) hj)
          go false x true y = absurd (only m i li (eqb-false i p x) (ap (λ (k : ℕ). sits m (seat_at e k)) (sym (eqb-true j p y)) ∙ hj) hi)
          go false x false y =
              f.once m i j li lj (ap (sits m) (sym (other-is i li (eqb-false i p x))) ∙ hi)
              (ap (sits m) (sym (other-is j lj (eqb-false j p y))) ∙ hj)

  -- what another number has
  module _ (m : ℕ) (ne : n ≡ m → ⊥) where
    sits-same : (i : ℕ) → i < seats → sits m (seat_at e i) ≡ sits m (seat_at d i)
    sits-same i l = go (eqb i p) refl
      where
        go : (b : Bool) → eqb i p ≡ b → sits m (seat_at e i) ≡ sits m (seat_at d i)
        go true h =
            ap (λ (k : ℕ). sits m (seat_at e k)) (eqb-true i p h) ∙ ap (sits m) here-is ∙ mv.afterwards m ne
            ∙ sym (ap (λ (k : ℕ). sits m (seat_at d k)) (eqb-true i p h) ∙ mv.before m ne)
        go false h = ap (sits m) (other-is i l (eqb-false i p h))

    place_same : place_of e m ≡ place_of d m
    unfolding place_of
    place_same = least-same (λ i. sits m (seat_at e i)) (λ i. sits m (seat_at d i)) seats sits-same

    seat-same : (i : ℕ) → i < seats → sits m (seat_at d i) ≡ true → seat_at e i ≡ seat_at d i
    seat-same i l h = other-is i l (λ q. not-both h (ap (λ (k : ℕ). sits m (seat_at d k)) q ∙ mv.before m ne))

    own_same : own_of e m ≡ own_of d m
    own_same = go (where-is d m)
      where
        go : Where d m → own_of e m ≡ own_of d m
        go (at i l h q) =
            own_at e m change-formed i l (sits-same i l ∙ h) ∙ ap (λ (x : List ℕ). here (drop 3 x)) (seat-same i l h) ∙ sym (own_at d m f i l h)
        go (nowhere z) = own-nowhere e m (λ i l. sits-same i l ∙ z i l) ∙ sym (own-nowhere d m z)

  moved : (o : Own) → own_of e n ≡ o → Settled d n o e
  moved o w = record { formed = change-formed; own = w; seat = seat-same; place = place_same; others = own_same }

  pub moved_here : sits n s ≡ true → Settled d n (here (drop 3 s)) e
  moved_here h =
      moved (here (drop 3 s)) (own_at e n change-formed p mv.inside (ap (sits n) here-is ∙ h) ∙ ap (λ (x : List ℕ). here (drop 3 x)) here-is)

  pub moved-away : sits n s ≡ false → Settled d n away e
  moved-away h = moved away (own-nowhere e n (λ j l. at-seat (λ x. sits n x ≡ false) j l h (mv.alone j l)))
