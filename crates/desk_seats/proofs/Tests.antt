-- The tests of a seat from their parts, and what they tell of who sits on it.
use Prim.Native.Nat.{ℕ}
use mathlib.Core.Path.{◌≡◌, sym, ◌∙◌}
use mathlib.Core.Bool.{Bool, true, false, ◌&&◌}
use mathlib.Core.List.{List}
use lib.ListN.{drop}
use lib.Dec.{eqb}
use borrow.Author.Tests.{eqb-true}
use Rattle.lists.proofs.Cond.{if-true, if-false, left-true, right-true}
use Rattle.reply.specs.declared.Reply.{Reply}
use Rattle.reply.specs.Reply.{is_done}
use Rattle.record_layout.specs.Record.{read_current}
use Rattle.desk_seats.specs.Seats.{is_held, number_of, is_free, is_record, is_seat, sits}

pub sits-is : (x : Bool) (n m : ℕ) (s : List ℕ) → x ≡ is_held s → n ≡ number_of s → (x && eqb n m) ≡ sits m s
unfolding sits
sits-is x n m s e f = rw (e, f)

pub sits-held : (m : ℕ) (s : List ℕ) → sits m s ≡ true → is_held s ≡ true
unfolding sits
sits-held m s h = left-true (is_held s) (eqb (number_of s) m) h

pub sits-number : (m : ℕ) (s : List ℕ) → sits m s ≡ true → number_of s ≡ m
unfolding sits
sits-number m s h = eqb-true (number_of s) m (right-true (is_held s) (eqb (number_of s) m) h)

-- the two exits of a seat's test
pub seat-held : (s b : List ℕ) (x y : Bool) (r : Reply) → x ≡ is_held s → x ≡ true → r ≡ (read_current b).reply → b ≡ drop 3 s → y ≡ is_done r → y ≡ is_seat s
unfolding is_seat is_record
seat-held s b x y r e t f g h =
    rw (h, f, g) (sym (if-true (is_held s) (is_done (read_current (drop 3 s)).reply) (is_free s) (sym e ∙ t)))

pub seat-free : (s : List ℕ) (x y : Bool) → x ≡ is_held s → x ≡ false → y ≡ is_free s → y ≡ is_seat s
unfolding is_seat
seat-free s x y e t f = f ∙ sym (if-false (is_held s) (is_record (drop 3 s)) (is_free s) (sym e ∙ t))
