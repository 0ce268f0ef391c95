-- The tests of a desk from their parts, and what a well-formed desk tells: its length, each seat, and that no number sits twice.
use Prim.Native.Nat.{ℕ, ◌<◌}
use mathlib.Core.Path.{◌≡◌, ap, ◌∙◌}
use mathlib.Core.Bool.{Bool, true, false, not, ◌&&◌}
use mathlib.Core.List.{List}
use lib.ListN.{length}
use lib.Dec.{eqb, ltb}
use borrow.Author.Tests.{eq-eqb, ne_eqb, eqb-true, not-true}
use Rattle.lists.specs.Search.{least, some, all}
use Rattle.lists.proofs.Search.{all-at}
use Rattle.lists.proofs.Cond.{left-true, right-true}
use Rattle.desk_seats.specs.Seats.{seats, desk_length, seat_at, is_held, number_of, is_seat, sits}
use Rattle.std.specs.Prelude.{Option, is_some}
use Rattle.desk_places.proofs.First.{found-some}
use Rattle.desk_places.specs.Desks.{first_below, is_again, well_formed}

pub again-is : (d : List ℕ) (i : ℕ) (s : List ℕ) (x y : Bool) (n : ℕ) (o : Option ℕ) → s ≡ seat_at d i → x ≡ is_held s → n ≡ number_of s
    → o ≡ first_below (λ j. sits n (seat_at d j)) i → y ≡ is_some o → (x && y) ≡ is_again d i
unfolding is_again
again-is d i s x y n o e f g h k =
    rw (k, h, found-some, g, f) (ap (λ (z : List ℕ). is_held z && some (λ j. sits (number_of z) (seat_at d j)) i) e)

pub good-is : (d : List ℕ) (i : ℕ) (s : List ℕ) (x y : Bool) → s ≡ seat_at d i → x ≡ is_seat s → y ≡ is_again d i
    → (x && not y) ≡ (is_seat (seat_at d i) && not (is_again d i))
good-is d i s x y e f g = rw (f, g, e)

-- the two exits of a desk's test
pub formed-wrong : (d : List ℕ) → (length d ≡ desk_length → ⊥) → false ≡ well_formed d
unfolding well_formed
formed-wrong d h = rw (ne_eqb (length d) desk_length h)

pub formed-right : (d : List ℕ) (ok : Bool) (i : ℕ) → length d ≡ desk_length → i ≡ seats
    → ok ≡ all (λ j. is_seat (seat_at d j) && not (is_again d j)) i → ok ≡ well_formed d
unfolding well_formed
formed-right d ok i h e f = rw (eq-eqb (length d) desk_length h) (f ∙ ap (all (λ j. is_seat (seat_at d j) && not (is_again d j))) e)

module _ (d : List ℕ) (w : well_formed d ≡ true) where
  abbrev judged : Bool
  judged = all (λ i. is_seat (seat_at d i) && not (is_again d i)) seats

  pub formed-long : length d ≡ desk_length
  unfolding well_formed
  formed-long = eqb-true (length d) desk_length (left-true (eqb (length d) desk_length) judged w)

  both_at : (i : ℕ) → i < seats → (is_seat (seat_at d i) && not (is_again d i)) ≡ true
  unfolding well_formed
  both_at = all-at (λ i. is_seat (seat_at d i) && not (is_again d i)) seats (right-true (eqb (length d) desk_length) judged w)

  pub formed-seat : (i : ℕ) → i < seats → is_seat (seat_at d i) ≡ true
  formed-seat i l = left-true (is_seat (seat_at d i)) (not (is_again d i)) (both_at i l)

  pub formed-once : (i : ℕ) → i < seats → is_again d i ≡ false
  formed-once i l = not-true (is_again d i) (right-true (is_seat (seat_at d i)) (not (is_again d i)) (both_at i l))
