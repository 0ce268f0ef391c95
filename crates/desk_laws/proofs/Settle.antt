-- A desk settled with what a number has afterwards: its seat made all 0, its record put in its seat, or the first free seat taken, each a
-- change of one seat.
use Prim.Native.Nat.{ℕ, ◌+◌, ◌*◌, ◌/◌, ◌%◌, ◌<◌}
use mathlib.Core.Path.{◌≡◌, refl, sym, ap, ◌∙◌, subst}
use mathlib.Core.Bool.{Bool, true, false, not}
use mathlib.Core.List.{List, ◌++◌}
use native.Mathlib.Nat.{div-add-mod'}
use native.Mathlib.Omega.{arith}
use lib.ListN.{length, take, drop, get_or, length-append, length-replicate, get_or-replicate, get_or-append}
use lib.Seq.{length-take-le, get_or-take, drop_at}
use lib.Dec.{eqb, lit<}
use borrow.Author.Tests.{ltb-true, eq-eqb, ne_eqb, not-true}
use Rattle.lists.specs.Placed.{placed}
use Rattle.lists.proofs.Bytes.{bytes-append, bytes_take, bytes-zeros}
use Rattle.lists.proofs.Search.{not-both, least-found, all_of}
use Rattle.lists.proofs.Cond.{right-false}
use Rattle.record_layout.specs.Version.{current}
use Rattle.record_layout.specs.Record.{record_length}
use Rattle.record_layout.specs.Claims.{IsRecord}
use Rattle.desk_seats.specs.Seats.{seats, seat_length, zeros, seat_at, is_held, number_of, is_free, sits, seat_of}
use Rattle.desk_places.specs.Desks.{free_of, has_room}
use Rattle.desk_seats.proofs.Cuts.{length-seat, placed-record}
use Rattle.desk_seats.proofs.Tests.{sits-held, sits-number}
use Rattle.desk.specs.Own.{Own, away, here}
use Rattle.desk.specs.Desk.{own_of, settled}
use Rattle.desk_places.proofs.Found.{room-free}
use Rattle.desk.proofs.Exits.{settled-away, settled-new, settled_here, settled-gone}
use Rattle.desk_laws.proofs.Bytes.{bytes-seat, bytes-new}
use Rattle.desk_laws.proofs.Records.{OwnRecord, record-length, record-bytes}
use Rattle.desk_laws.proofs.Formed.{GoodSeat, Formed, Where, at, nowhere, where-is, unplaced, own-nowhere}
use Rattle.desk_laws.proofs.Change.{Settled, Moves, moved_here, moved-away}

-- ---- who sits on a seat

sits-other : (n m : ℕ) (s : List ℕ) → sits n s ≡ true → (n ≡ m → ⊥) → sits m s ≡ false
unfolding sits
sits-other n m s h ne = right-false (is_held s) (ne_eqb (number_of s) m (λ e. ne (sym (sits-number n s h) ∙ e)))

pub sits-free : (m : ℕ) (s : List ℕ) → is_held s ≡ false → sits m s ≡ false
unfolding sits
sits-free m s h = rw h

-- ---- a seat that is all 0

pub zeros-free : is_held (zeros seat_length) ≡ false
zeros-free = ap (λ (x : ℕ). eqb x 1) (get_or-replicate seat_length 0 0 0 (lit< tt))

pub zeros-good : GoodSeat (zeros seat_length)
unfolding is_free
zeros-good = record {
  held = λ h. absurd (not-both h zeros-free);
  free = λ h. all_of (λ k. eqb (get_or (zeros seat_length) k 0) 0) seat_length (λ k l. ap (λ (x : ℕ). eqb x 0) (get_or-replicate seat_length k 0 0 l));
}

-- ---- a new seat

new-sits : (n : ℕ) (b : List ℕ) → sits n (seat_of n b) ≡ true
unfolding sits
new-sits n b = let e : n / 256 * 256 + n % 256 ≡ n = div-add-mod' n 256 in eq-eqb (n / 256 * 256 + n % 256) n e

-- ---- a seat with another record

module _ (s b : List ℕ) (l : length s ≡ seat_length) where
  front : length (take 3 s) ≡ 3
  front = length-take-le 3 s (omega arith)

  byte-same : (i : ℕ) → i < 3 → get_or (take 3 s ++ b) i 0 ≡ get_or s i 0
  byte-same i h = get_or-append (take 3 s) b 0 i (omega (arith, front)) ∙ get_or-take 3 s i 0 h

  again-held : is_held (take 3 s ++ b) ≡ is_held s
  again-held = ap (λ (x : ℕ). eqb x 1) (byte-same 0 (lit< tt))

  again-sits : (m : ℕ) → sits m (take 3 s ++ b) ≡ sits m s
  unfolding sits
  again-sits m = rw (byte-same 0 (lit< tt), byte-same 1 (lit< tt), byte-same 2 (lit< tt))

  again-record : drop 3 (take 3 s ++ b) ≡ b
  again-record = drop_at (take 3 s) b 3 front

  again-length : length b ≡ record_length current → length (take 3 s ++ b) ≡ seat_length
  again-length h = omega (arith, length-append (take 3 s) b, front)

-- ---- room is a seat that is not held

module _ (d : List ℕ) (r : has_room d ≡ true) where
  free-below : free_of d < seats
  free-below = ltb-true (free_of d) seats (sym (room-free d) ∙ r)

  free-free : is_held (seat_at d (free_of d)) ≡ false
  unfolding free_of
  free-free = not-true (is_held (seat_at d (free_of d))) ((least-found (λ i. not (is_held (seat_at d i))) seats).here free-below)

-- ---- a settled desk

module _ (d : List ℕ) (n : ℕ) (ln : n < 65536) (f : Formed d) where
  -- where n sits at i
  module _ (i : ℕ) (l : i < seats) (h : sits n (seat_at d i) ≡ true) where
    alone : (j : ℕ) → j < seats → (j ≡ i → ⊥) → sits n (seat_at d j) ≡ false
    alone j k ne = go (sits n (seat_at d j)) refl
      where
        go : (b : Bool) → sits n (seat_at d j) ≡ b → b ≡ false
        go true e = absurd (ne (f.once n j i k l e h))
        go false e = refl

    leaves : Settled d n away (placed d (i * seat_length) (zeros seat_length))
    leaves =
        moved-away n d f i (zeros seat_length)
        (record {
          inside = l;
          bytes = bytes-zeros seat_length;
          long = length-replicate {A = ℕ} seat_length 0;
          alone = alone;
          before = λ m ne. sits-other n m (seat_at d i) h ne;
          afterwards = λ m ne. sits-free m (zeros seat_length) zeros-free;
          good = zeros-good;
        })
        (sits-free n (zeros seat_length) zeros-free)

    stays : (b : List ℕ) → IsRecord current b → Settled d n (here b) (placed d (i * seat_length + 3) b)
    stays b k =
        let s = seat_at d i in
        let ls = length-seat d f.long i l in
        let lb = record-length b k in
        let mv : Moves n d i (take 3 s ++ b) = record {
          inside = l;
          bytes = bytes-append (take 3 s) b (bytes_take 3 s (bytes-seat d i f.bytes)) (record-bytes b k);
          long = again-length s b ls lb;
          alone = alone;
          before = λ m ne. sits-other n m s h ne;
          afterwards = λ m ne. again-sits s b ls m ∙ sits-other n m s h ne;
          good = record {
            held = λ g. subst (IsRecord current) (sym (again-record s b ls)) k;
            free = λ g. absurd (not-both (sits-held n s h) (sym (again-held s b ls) ∙ g));
          };
        } in
        let w = moved_here n d f i (take 3 s ++ b) mv (again-sits s b ls n ∙ h) in
        subst (λ (o : Own). Settled d n o (placed d (i * seat_length + 3) b)) (ap here (again-record s b ls))
        (subst (λ (e : List ℕ). Settled d n (here (drop 3 (take 3 s ++ b))) e) (sym (placed-record d f.long i l b lb)) w)

  -- where n sits nowhere
  module _ (z : (i : ℕ) → i < seats → sits n (seat_at d i) ≡ false) where
    unmoved : Settled d n away d
    unmoved = record { formed = f; own = own-nowhere d n z; seat = λ m ne i l h. refl; place = λ m ne. refl; others = λ m ne. refl }

    comes : has_room d ≡ true → (b : List ℕ) → IsRecord current b → Settled d n (here b) (placed d (free_of d * seat_length) (seat_of n b))
    comes r b k =
        let lb = record-length b k in
        moved_here n d f (free_of d) (seat_of n b)
        (record {
          inside = free-below d r;
          bytes = bytes-new n b ln (record-bytes b k);
          long = omega arith;
          alone = λ j l ne. z j l;
          before = λ m ne. sits-free m (seat_at d (free_of d)) (free-free d r);
          afterwards = λ m ne. sits-other n m (seat_of n b) (new-sits n b) ne;
          good = record { held = λ h. k; free = λ h. absurd (not-both refl h) };
        })
        (new-sits n b)

  -- what n has afterwards is a record, and a seat is taken only where there is room
  pub settles : (o : Own) → OwnRecord o → ((b : List ℕ) → o ≡ here b → own_of d n ≡ away → has_room d ≡ true) → Settled d n o (settled d n o)
  settles o = go (where-is d n) o
    where
      go : Where d n → (o : Own) → OwnRecord o → ((b : List ℕ) → o ≡ here b → own_of d n ≡ away → has_room d ≡ true) → Settled d n o (settled d n o)
      go (at i l h q) away k r = subst (Settled d n away) (sym (settled-gone d n i l (sym q))) (leaves i l h)
      go (at i l h q) (here b) k r = subst (Settled d n (here b)) (sym (settled_here d n i l (sym q) b)) (stays i l h b k)
      go (nowhere z) away k r = subst (Settled d n away) (sym (settled-away d n (unplaced d n z))) (unmoved z)
      go (nowhere z) (here b) k r =
          subst (Settled d n (here b)) (sym (settled-new d n (unplaced d n z) b)) (comes z (r b refl (own-nowhere d n z)) b k)
