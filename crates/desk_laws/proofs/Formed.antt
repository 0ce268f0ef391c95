-- A desk seat by seat: `Formed` says of each seat, and of every two, what `well_formed` tests, and the two are the same for bytes. And what
-- a number has of a desk, by where it sits.
use Prim.Native.Nat.{ℕ, ◌≤◌, ◌<◌}
use native.Mathlib.Nat.{lt_trans}
use mathlib.Core.Path.{◌≡◌, refl, sym, ap, ◌∙◌}
use mathlib.Core.Bool.{Bool, true, false, cond, not, ◌&&◌}
use mathlib.Core.List.{List}
use native.Mathlib.Omega.{arith}
use lib.ListN.{length, drop}
use lib.Dec.{ltb}
use borrow.Author.Tests.{ltb-true, ltb-false, eq-eqb}
use Rattle.lists.specs.Bytes.{Bytes}
use Rattle.lists.specs.Search.{least, some}
use Rattle.lists.proofs.Bytes.{bytes_drop}
use Rattle.lists.proofs.Search.{not-both, least-found, least-none, some_at, some-not, all_of}
use Rattle.lists.proofs.Cond.{if-true, if-false}
use Rattle.record_layout.specs.Version.{current}
use Rattle.record_layout.specs.Claims.{IsRecord}
use Rattle.desk_seats.specs.Seats.{seats, desk_length, seat_at, is_held, number_of, is_free, is_record, is_seat, sits}
use Rattle.desk_places.specs.Desks.{is_again, well_formed, place_of}
use Rattle.desk_seats.proofs.Tests.{sits-held, sits-number}
use Rattle.desk_places.proofs.Judged.{formed-long, formed-seat, formed-once}
use Rattle.desk.specs.Own.{away, here}
use Rattle.desk.specs.Desk.{own_of}
use Rattle.desk.proofs.Exits.{own-away, own-seat}
use Rattle.desk_laws.specs.Claims.{IsDesk}
use Rattle.desk_laws.proofs.Bytes.{bytes-seat}
use Rattle.desk_laws.proofs.Records.{record-accepted, accepted-record}

pub record GoodSeat (s : List ℕ) : Type 0 where
  pub held : is_held s ≡ true → IsRecord current (drop 3 s)
  pub free : is_held s ≡ false → is_free s ≡ true

pub record Formed (d : List ℕ) : Type 0 where
  pub bytes : Bytes d
  pub long : length d ≡ desk_length
  pub good : (i : ℕ) → i < seats → GoodSeat (seat_at d i)
  pub once : (m i j : ℕ) → i < seats → j < seats → sits m (seat_at d i) ≡ true → sits m (seat_at d j) ≡ true → i ≡ j

-- ---- where a number sits

pub data Where (d : List ℕ) (m : ℕ) : Type 0 where
  at : (i : ℕ) → i < seats → sits m (seat_at d i) ≡ true → place_of d m ≡ i → Where d m
  nowhere : ((i : ℕ) → i < seats → sits m (seat_at d i) ≡ false) → Where d m

module _ (d : List ℕ) (m : ℕ) where
  pub where-is : Where d m
  unfolding place_of
  where-is = go (some (λ i. sits m (seat_at d i)) seats) refl
    where
      go : (b : Bool) → some (λ i. sits m (seat_at d i)) seats ≡ b → Where d m
      go true e =
          let l = ltb-true (least (λ i. sits m (seat_at d i)) seats) seats e in
          at (least (λ i. sits m (seat_at d i)) seats) l ((least-found (λ i. sits m (seat_at d i)) seats).here l) refl
      go false e = nowhere (λ i l. some-not (λ i. sits m (seat_at d i)) seats i e l)

  pub unplaced : ((i : ℕ) → i < seats → sits m (seat_at d i) ≡ false) → seats ≤ place_of d m
  unfolding place_of
  unplaced h = omega (arith, least-none (λ i. sits m (seat_at d i)) seats h)

  pub own-nowhere : ((i : ℕ) → i < seats → sits m (seat_at d i) ≡ false) → own_of d m ≡ away
  own-nowhere h = own-away d m (unplaced h)

  pub own_at : Formed d → (i : ℕ) → i < seats → sits m (seat_at d i) ≡ true → own_of d m ≡ here (drop 3 (seat_at d i))
  own_at f i l h = own-seat d m i l (sym (go where-is))
    where
      go : Where d m → place_of d m ≡ i
      go (at j k g e) = e ∙ f.once m j i k l g h
      go (nowhere n) = absurd (not-both h (n i l))

-- ---- a desk is formed

module _ (d : List ℕ) (k : IsDesk d) where
  good-seat : (i : ℕ) → i < seats → GoodSeat (seat_at d i)
  unfolding is_seat
  good-seat i l =
      let s = formed-seat d k.formed i l in
      record {
        held = λ h. accepted-record (drop 3 (seat_at d i)) (bytes_drop 3 (seat_at d i) (bytes-seat d i k.bytes)) (sym (if-true (is_held (seat_at d i)) _ _ h) ∙ s);
        free = λ h. sym (if-false (is_held (seat_at d i)) _ _ h) ∙ s;
      }

  -- no earlier seat has the number of a later one
  earlier : (m i j : ℕ) → i < j → j < seats → sits m (seat_at d i) ≡ true → sits m (seat_at d j) ≡ true → ⊥
  unfolding is_again
  earlier m i j l lj g h =
      let p : ℕ → Bool = λ x. sits (number_of (seat_at d j)) (seat_at d x) in
      let n : some p j ≡ false = sym (ap (λ (b : Bool). b && some p j) (sits-held m (seat_at d j) h)) ∙ formed-once d k.formed j lj in
      not-both g (ap (λ (x : ℕ). sits x (seat_at d i)) (sym (sits-number m (seat_at d j) h)) ∙ some-not p j i n l)

  pub formed : Formed d
  formed = record { bytes = k.bytes; long = formed-long d k.formed; good = good-seat; once = once }
    where
      once : (m i j : ℕ) → i < seats → j < seats → sits m (seat_at d i) ≡ true → sits m (seat_at d j) ≡ true → i ≡ j
      once m i j li lj hi hj = go (ltb i j) refl (ltb j i) refl
        where
          go : (a : Bool) → ltb i j ≡ a → (b : Bool) → ltb j i ≡ b → i ≡ j
          go true e b f = absurd (earlier m i j (ltb-true i j e) lj hi hj)
          go false e true f = absurd (earlier m j i (ltb-true j i f) li hj hi)
          go false e false f = omega (arith, ltb-false i j e, ltb-false j i f)

-- ---- and the other way round

module _ (d : List ℕ) (f : Formed d) where
  seat-good : (i : ℕ) → i < seats → is_seat (seat_at d i) ≡ true
  unfolding is_seat
  seat-good i l = go (is_held (seat_at d i)) refl
    where
      go : (b : Bool) → is_held (seat_at d i) ≡ b → cond (is_held (seat_at d i)) (is_record (drop 3 (seat_at d i))) (is_free (seat_at d i)) ≡ true
      go true h = if-true (is_held (seat_at d i)) _ _ h ∙ record-accepted (drop 3 (seat_at d i)) ((f.good i l).held h)
      go false h = if-false (is_held (seat_at d i)) _ _ h ∙ (f.good i l).free h

  held-sits : (s : List ℕ) → is_held s ≡ true → sits (number_of s) s ≡ true
  unfolding sits
  held-sits s h = rw (h, eq-eqb (number_of s) (number_of s) refl)

  first-time : (i : ℕ) → i < seats → is_again d i ≡ false
  unfolding is_again
  first-time i l = go (is_held (seat_at d i)) refl (some (λ j. sits (number_of (seat_at d i)) (seat_at d j)) i) refl
    where
      go : (a : Bool) → is_held (seat_at d i) ≡ a → (b : Bool) → some (λ j. sits (number_of (seat_at d i)) (seat_at d j)) i ≡ b → (a && b) ≡ false
      go true h true e =
          let w = some_at (λ j. sits (number_of (seat_at d i)) (seat_at d j)) i e in
          absurd (omega (arith, w.1, f.once (number_of (seat_at d i)) w.0 i (lt_trans w.1 l) l w.2 (held-sits (seat_at d i) h)))
      go true h false e = refl
      go false h b e = refl

  pub formed-well : well_formed d ≡ true
  unfolding well_formed
  formed-well =
      rw (eq-eqb (length d) desk_length f.long)
      (all_of (λ i. is_seat (seat_at d i) && not (is_again d i)) seats (λ i l. rw (seat-good i l, first-time i l)))

  pub is-desk : IsDesk d
  is-desk = record { bytes = f.bytes; formed = formed-well }
