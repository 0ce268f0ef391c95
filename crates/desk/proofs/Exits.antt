-- What a call is on a desk that is not well formed, for a member without a seat, and for the member of a seat; and that what a member has,
-- put back, changes nothing.
use Prim.Native.Nat.{ℕ, ◌+◌, ◌*◌, ◌≤◌, ◌<◌}
use mathlib.Core.Path.{◌≡◌, refl, sym, ap, ◌∙◌}
use mathlib.Core.Bool.{Bool, true, false}
use mathlib.Core.List.{List}
use native.Mathlib.Omega.{arith}
use lib.ListN.{drop}
use borrow.Author.Tests.{ltb-true, ltb-false, lt-ltb, le-ltb}
use Rattle.lists.specs.Placed.{placed}
use Rattle.lists.proofs.Cond.{if-true, if-false}
use Rattle.reply.specs.declared.Reply.{Reply}
use Rattle.reply.specs.declared.Reply.TheVariants.{BadDesk, AlreadyOpen, NotOpen, DeskFull}
use Rattle.desk_seats.specs.Seats.{seats, seat_length, zeros, seat_at, seat_of}
use Rattle.desk_places.specs.Desks.{well_formed, place_of, is_seated, free_of, has_room}
use Rattle.desk_seats.proofs.Cuts.{record_same}
use Rattle.desk_places.proofs.Judged.{formed-long}
use Rattle.desk_places.proofs.Found.{Unplaced, not-formed, not-seated, Unopened, bad-desk, seated, full}
use Rattle.desk.specs.Own.{Call, opening, Own, away, here, replied, is_opening, opened, not_open, seated_call, away_call, own_call}
use Rattle.desk.specs.Desk.{DeskResult, own_of, settled, settled_by, desk_call}

-- a refusal, and the desk as it was
abbrev pub refused_by : Reply → List ℕ → Call → DeskResult
refused_by r d c = record { outcome = replied r c; desk = d }

pub exit-bad : (d : List ℕ) (m : ℕ) (c : Call) → well_formed d ≡ false → desk_call d m c ≡ refused_by BadDesk d c
unfolding desk_call
exit-bad d m c w = if-false (well_formed d) (settled_by d m (own_call (has_room d) (own_of d m) c)) (refused_by BadDesk d c) w

-- what a number has, and the desk with it put back, by its place
module _ (d : List ℕ) (m : ℕ) where
  module _ (n : seats ≤ place_of d m) where
    unseated : is_seated d m ≡ false
    unseated = le-ltb (place_of d m) seats n

    pub own-away : own_of d m ≡ away
    unfolding own_of
    own-away = if-false (is_seated d m) (here (drop 3 (seat_at d (place_of d m)))) away unseated

    pub settled-away : settled d m away ≡ d
    unfolding settled
    settled-away = if-false (is_seated d m) (placed d (place_of d m * seat_length) (zeros seat_length)) d unseated

    pub settled-new : (b : List ℕ) → settled d m (here b) ≡ placed d (free_of d * seat_length) (seat_of m b)
    unfolding settled
    settled-new b =
        if-false (is_seated d m) (placed d (place_of d m * seat_length + 3) b) (placed d (free_of d * seat_length) (seat_of m b)) unseated

  module _ (i : ℕ) (l : i < seats) (p : i ≡ place_of d m) where
    has-seat : is_seated d m ≡ true
    has-seat = lt-ltb (place_of d m) seats (omega arith)

    pub own-seat : own_of d m ≡ here (drop 3 (seat_at d i))
    unfolding own_of
    own-seat =
        if-true (is_seated d m) (here (drop 3 (seat_at d (place_of d m)))) away has-seat ∙ ap (λ (k : ℕ). here (drop 3 (seat_at d k))) (sym p)

    pub settled_here : (b : List ℕ) → settled d m (here b) ≡ placed d (i * seat_length + 3) b
    unfolding settled
    settled_here b =
        if-true (is_seated d m) (placed d (place_of d m * seat_length + 3) b) (placed d (free_of d * seat_length) (seat_of m b)) has-seat
        ∙ ap (λ (k : ℕ). placed d (k * seat_length + 3) b) (sym p)

    pub settled-gone : settled d m away ≡ placed d (i * seat_length) (zeros seat_length)
    unfolding settled
    settled-gone =
        if-true (is_seated d m) (placed d (place_of d m * seat_length) (zeros seat_length)) d has-seat
        ∙ ap (λ (k : ℕ). placed d (k * seat_length) (zeros seat_length)) (sym p)

module _ (d : List ℕ) (w : well_formed d ≡ true) (m : ℕ) where
  pub on-own : (c : Call) → desk_call d m c ≡ settled_by d m (own_call (has_room d) (own_of d m) c)
  unfolding desk_call
  on-own c = if-true (well_formed d) (settled_by d m (own_call (has_room d) (own_of d m) c)) (refused_by BadDesk d c) w

  -- a call by what the member has
  pub by-own : (c : Call) (o : Own) → own_of d m ≡ o → desk_call d m c ≡ settled_by d m (own_call (has_room d) o c)
  by-own c o e = on-own c ∙ ap (λ (x : Own). settled_by d m (own_call (has_room d) x c)) e

  module _ (n : seats ≤ place_of d m) where
    pub away-call : (c : Call) → desk_call d m c ≡ settled_by d m (away_call (has_room d) c)
    away-call c = by-own c away (own-away d m n)

    exit-unseated : (c : Call) → is_opening c ≡ false → desk_call d m c ≡ refused_by NotOpen d c
    exit-unseated c o =
        away-call c
        ∙ ap (settled_by d m) (if-false (is_opening c) (opened (has_room d)) (not_open c) o)
        ∙ ap (λ (e : List ℕ). refused_by NotOpen e c) (settled-away d m n)

  module _ (i : ℕ) (l : i < seats) (p : i ≡ place_of d m) where
    pub seated-call : (c : Call) → desk_call d m c ≡ settled_by d m (seated_call (drop 3 (seat_at d i)) c)
    seated-call c = by-own c (here (drop 3 (seat_at d i))) (own-seat d m i l p)

    settled_same : settled d m (here (drop 3 (seat_at d i))) ≡ d
    settled_same = settled_here d m i l p (drop 3 (seat_at d i)) ∙ record_same d (formed-long d w) i l

  -- what the member has, put back, changes nothing
  pub settled-own : settled d m (own_of d m) ≡ d
  settled-own = go (is_seated d m) refl
    where
      go : (b : Bool) → is_seated d m ≡ b → settled d m (own_of d m) ≡ d
      go true e =
          let l = ltb-true (place_of d m) seats e in ap (settled d m) (own-seat d m (place_of d m) l refl) ∙ settled_same (place_of d m) l refl
      go false e = let n = ltb-false (place_of d m) seats e in ap (settled d m) (own-away d m n) ∙ settled-away d m n

-- a call that finds no place
pub refused-call : (d : List ℕ) (m : ℕ) (r : Reply) (c : Call) → is_opening c ≡ false → Unplaced d m r → desk_call d m c ≡ refused_by r d c
refused-call d m r c o (not-formed w e) = exit-bad d m c w ∙ ap (λ (x : Reply). refused_by x d c) e
refused-call d m r c o (not-seated w n e) = exit-unseated d w m n c o ∙ ap (λ (x : Reply). refused_by x d c) e

-- an opening that finds none
pub refused-opening : (d : List ℕ) (m : ℕ) (r : Reply) → Unopened d m r → desk_call d m opening ≡ refused_by r d opening
refused-opening d m r (bad-desk w e) = exit-bad d m opening w ∙ ap (λ (x : Reply). refused_by x d opening) e
refused-opening d m r (seated w l e) =
    seated-call d w m (place_of d m) l refl opening
    ∙ ap (λ (x : List ℕ). refused_by AlreadyOpen x opening) (settled_same d w m (place_of d m) l refl)
    ∙ ap (λ (x : Reply). refused_by x d opening) e
refused-opening d m r (full w n h e) =
    away-call d w m n opening ∙ ap (λ (b : Bool). settled_by d m (away_call b opening)) h
    ∙ ap (λ (x : List ℕ). refused_by DeskFull x opening) (settled-away d m n)
    ∙ ap (λ (x : Reply). refused_by x d opening) e
