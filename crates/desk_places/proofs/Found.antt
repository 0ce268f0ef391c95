-- The exits of the search for a member's seat and of that for a free one, and what a place that is found, or a refusal, tells of the desk.
use Prim.Native.Nat.{ℕ, ◌≤◌, ◌<◌}
use mathlib.Core.Path.{◌≡◌, refl, sym, ap, ◌∙◌, subst}
use mathlib.Core.Bool.{Bool, true, false, cond, not}
use mathlib.Core.List.{List}
use native.Mathlib.Omega.{arith}
use lib.Dec.{ltb}
use borrow.Author.Tests.{ltb-true, ltb-false, lt-ltb, le-ltb}
use Rattle.lists.proofs.Counts.{count-some}
use Rattle.lists.proofs.Cond.{if-true, if-false}
use Rattle.reply.specs.declared.Reply.{Reply}
use Rattle.reply.specs.declared.Reply.TheVariants.{BadDesk, AlreadyOpen, NotOpen, DeskFull}
use Rattle.std.specs.Prelude.{Option, Result, Ok, Err, is_some}
use Rattle.std.specs.Option.{ok_or}
use Rattle.desk_seats.specs.Seats.{seats, seat_at, is_held, sits}
use Rattle.desk_places.specs.Desks.{first_below, well_formed, place_of, is_seated, free_of, held_seats, has_room}
use Rattle.desk_places.proofs.First.{found-some, found_or}
use Rattle.desk_places.specs.Places.{place_in, free_for, free_in}

-- number m has the seat i of a well-formed desk
pub record SitsAt (d : List ℕ) (m i : ℕ) : Type 0 where
  pub formed : well_formed d ≡ true
  pub below : i < seats
  pub place : i ≡ place_of d m

-- why a call for number m is refused by r
pub data Unplaced (d : List ℕ) (m : ℕ) (r : Reply) : Type 0 where
  not-formed : well_formed d ≡ false → BadDesk ≡ r → Unplaced d m r
  not-seated : well_formed d ≡ true → seats ≤ place_of d m → NotOpen ≡ r → Unplaced d m r

module _ (d : List ℕ) (m : ℕ) where
  abbrev of_member : ℕ → Bool
  of_member i = sits m (seat_at d i)

  pub find-good : (o : Option ℕ) → well_formed d ≡ true → o ≡ first_below of_member seats → ok_or o NotOpen ≡ place_in d m
  unfolding place_in place_of
  find-good o w e = rw (e, w) (found_or of_member seats NotOpen)

  pub find-bad : well_formed d ≡ false → Err BadDesk ≡ place_in d m
  unfolding place_in
  find-bad w = rw w

  -- and back: what each answer of the search tells
  abbrev Tells : Result ℕ Reply → Type 0
  Tells (Ok i) = SitsAt d m i
  Tells (Err r) = Unplaced d m r

  tells : Tells (place_in d m)
  unfolding place_in
  tells = go (well_formed d) refl (is_seated d m) refl
    where
      go : (a : Bool) → well_formed d ≡ a → (b : Bool) → is_seated d m ≡ b → Tells (cond a (cond b (Ok (place_of d m)) (Err NotOpen)) (Err BadDesk))
      go true w true s = record { formed = w; below = ltb-true (place_of d m) seats s; place = refl }
      go true w false s = not-seated w (ltb-false (place_of d m) seats s) refl
      go false w b s = not-formed w refl

  pub at_place : (i : ℕ) (p : Result ℕ Reply) → p ≡ place_in d m → p ≡ Ok i → SitsAt d m i
  at_place i p e q = subst Tells (sym e ∙ q) tells

  pub refused-place : (r : Reply) (p : Result ℕ Reply) → p ≡ place_in d m → p ≡ Err r → Unplaced d m r
  refused-place r p e q = subst Tells (sym e ∙ q) tells

-- ---- a free seat for a member that opens

-- there is room where the first seat that is not held is one of the sixteen
pub room-free : (d : List ℕ) → has_room d ≡ ltb (free_of d) seats
unfolding held_seats free_of
room-free d = count-some (λ i. is_held (seat_at d i)) seats

-- number m has no seat, and seat i is the first that is not held
pub record FreeAt (d : List ℕ) (m i : ℕ) : Type 0 where
  pub formed : well_formed d ≡ true
  pub unseated : seats ≤ place_of d m
  pub below : i < seats
  pub place : i ≡ free_of d

-- why an opening by number m is refused by r
pub data Unopened (d : List ℕ) (m : ℕ) (r : Reply) : Type 0 where
  bad-desk : well_formed d ≡ false → BadDesk ≡ r → Unopened d m r
  seated : well_formed d ≡ true → place_of d m < seats → AlreadyOpen ≡ r → Unopened d m r
  full : well_formed d ≡ true → seats ≤ place_of d m → has_room d ≡ false → DeskFull ≡ r → Unopened d m r

module _ (d : List ℕ) (m : ℕ) where
  pub free-seated : (o : Option ℕ) (b : Bool) → o ≡ first_below (of_member d m) seats → b ≡ is_some o → b ≡ true → Err AlreadyOpen ≡ free_for d m
  unfolding free_for place_of
  free-seated o b e f t = let h : is_seated d m ≡ true = sym (found-some (of_member d m) seats) ∙ sym (f ∙ ap is_some e) ∙ t in rw h

  pub free-found : (o f : Option ℕ) (b : Bool) → o ≡ first_below (of_member d m) seats → b ≡ is_some o → b ≡ false
      → f ≡ first_below (λ i. not (is_held (seat_at d i))) seats → ok_or f DeskFull ≡ free_for d m
  unfolding free_for place_of free_of
  free-found o f b e g t h =
      let n : is_seated d m ≡ false = sym (found-some (of_member d m) seats) ∙ sym (g ∙ ap is_some e) ∙ t in
      rw (n, room-free d, h) (found_or (λ i. not (is_held (seat_at d i))) seats DeskFull)

  pub open-formed : (r : Result ℕ Reply) → well_formed d ≡ true → r ≡ free_for d m → r ≡ free_in d m
  unfolding free_in
  open-formed r w e = e ∙ sym (if-true (well_formed d) (free_for d m) (Err BadDesk) w)

  pub open-bad : well_formed d ≡ false → Err BadDesk ≡ free_in d m
  unfolding free_in
  open-bad w = sym (if-false (well_formed d) (free_for d m) (Err BadDesk) w)

  -- and back
  abbrev TellsFree : Result ℕ Reply → Type 0
  TellsFree (Ok i) = FreeAt d m i
  TellsFree (Err r) = Unopened d m r

  tells-free : TellsFree (free_in d m)
  unfolding free_in free_for
  tells-free = go (well_formed d) refl (is_seated d m) refl (has_room d) refl
    where
      go : (a : Bool) → well_formed d ≡ a → (b : Bool) → is_seated d m ≡ b → (x : Bool) → has_room d ≡ x
          → TellsFree (cond a (cond b (Err AlreadyOpen) (cond x (Ok (free_of d)) (Err DeskFull))) (Err BadDesk))
      go true w false s true h =
          record { formed = w; unseated = ltb-false (place_of d m) seats s; below = ltb-true (free_of d) seats (sym (room-free d) ∙ h); place = refl }
      go true w false s false h = full w (ltb-false (place_of d m) seats s) h refl
      go true w true s x h = seated w (ltb-true (place_of d m) seats s) refl
      go false w b s x h = bad-desk w refl

  pub at-free : (i : ℕ) (p : Result ℕ Reply) → p ≡ free_in d m → p ≡ Ok i → FreeAt d m i
  at-free i p e q = subst TellsFree (sym e ∙ q) tells-free

  pub refused-free : (r : Reply) (p : Result ℕ Reply) → p ≡ free_in d m → p ≡ Err r → Unopened d m r
  refused-free r p e q = subst TellsFree (sym e ∙ q) tells-free
