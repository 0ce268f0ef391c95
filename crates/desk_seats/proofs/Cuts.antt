-- Seats cut out of a desk: their length, a seat and its record as they are lent, a record put in its seat, and what a seat holds where
-- a whole seat was put at a place.
use Prim.Native.Nat.{ℕ, ◌+◌, ◌*◌, ◌-◌, ◌≤◌, ◌<◌}
use mathlib.Core.Path.{◌≡◌, refl, sym, ap, ◌∙◌}
use mathlib.Core.Bool.{Bool, true, false}
use mathlib.Core.List.{List, ◌++◌, append_assoc}
use native.Mathlib.Omega.{arith}
use lib.ListN.{length, take, drop, length-append, length-drop, take-append-drop}
use lib.Seq.{length-take-le, drop-drop, take-take, take-add, take_all}
use lib.Dec.{ltb}
use borrow.Author.Tests.{ltb-true, ltb-false}
use Rattle.lists.specs.Placed.{placed}
use Rattle.lists.proofs.Cuts.{take-drop, cut-length}
use Rattle.lists.proofs.Placed.{placed_same, length-placed, placed-here, placed-beyond, cut-before}
use Rattle.record_layout.specs.Version.{current}
use Rattle.record_layout.specs.Record.{record_length}
use Rattle.desk_seats.specs.Seats.{seats, seat_length, desk_length, seat_at}

-- a seat as it is lent
pub seat-lent : (d : List ℕ) (i : ℕ) → take (i * seat_length + seat_length - i * seat_length) (drop (i * seat_length) d) ≡ seat_at d i
unfolding seat_at
seat-lent d i =
    let e : i * seat_length + seat_length - i * seat_length ≡ seat_length = omega arith in
    ap (λ (n : ℕ). take n (drop (i * seat_length) d)) e

-- the record of a seat, as a part of the seat and of the desk
pub record-part : (s : List ℕ) → length s ≡ seat_length → take (seat_length - 3) (drop 3 s) ≡ drop 3 s
record-part s l = take_all (seat_length - 3) (drop 3 s) (omega (arith, length-drop 3 s))

pub record-lent : (d : List ℕ) (i : ℕ)
    → take (i * seat_length + seat_length - (i * seat_length + 3)) (drop (i * seat_length + 3) d) ≡ drop 3 (seat_at d i)
unfolding seat_at
record-lent d i =
    let w : i * seat_length + seat_length - (i * seat_length + 3) ≡ record_length current = omega arith in
    rw (w, ← drop-drop 3 (i * seat_length) d) (take-drop 3 (record_length current) (drop (i * seat_length) d))

module _ (d : List ℕ) (long : length d ≡ desk_length) (i : ℕ) (li : i < seats) where
  pub length-seat : length (seat_at d i) ≡ seat_length
  unfolding seat_at
  length-seat = cut-length d (i * seat_length) seat_length (omega arith)

  module _ (s : List ℕ) (ls : length s ≡ seat_length) where
    fits : i * seat_length + length s ≤ length d
    fits = omega arith

    pub desk-long : length (placed d (i * seat_length) s) ≡ desk_length
    desk-long = length-placed d s (i * seat_length) fits ∙ long

    pub seat-here : seat_at (placed d (i * seat_length) s) i ≡ s
    unfolding seat_at
    seat-here =
        ap (λ (n : ℕ). take n (drop (i * seat_length) (placed d (i * seat_length) s))) (sym ls) ∙ placed-here d s (i * seat_length) fits

    pub seat-other : (j : ℕ) → j < seats → (j ≡ i → ⊥) → seat_at (placed d (i * seat_length) s) j ≡ seat_at d j
    unfolding seat_at
    seat-other j lj ne = go (ltb j i) refl
      where
        go : (b : Bool) → ltb j i ≡ b
            → take seat_length (drop (j * seat_length) (placed d (i * seat_length) s)) ≡ take seat_length (drop (j * seat_length) d)
        go true e = cut-before d s (i * seat_length) fits (j * seat_length) seat_length (omega (arith, ltb-true j i e))
        go false e =
            let w : i < j = omega (arith, ltb-false j i e) in
            ap (take seat_length) (placed-beyond d s (i * seat_length) fits (j * seat_length) (omega arith))

  -- a record put in a seat is the seat put there with that record
  pub placed-record : (b : List ℕ) → length b ≡ record_length current
      → placed d (i * seat_length + 3) b ≡ placed d (i * seat_length) (take 3 (seat_at d i) ++ b)
  unfolding placed seat_at
  placed-record b lb =
      let l : length (drop (i * seat_length) d) ≡ desk_length - i * seat_length = omega (arith, length-drop (i * seat_length) d) in
      let t : take 3 (take seat_length (drop (i * seat_length) d)) ≡ take 3 (drop (i * seat_length) d) = take-take 3 seat_length (drop (i * seat_length) d) (omega arith) in
      let k : length (take 3 (drop (i * seat_length) d)) ≡ 3 = length-take-le 3 (drop (i * seat_length) d) (omega arith) in
      let e : i * seat_length + 3 + length b ≡ i * seat_length + length (take 3 (drop (i * seat_length) d) ++ b) = omega (arith, length-append (take 3 (drop (i * seat_length) d)) b) in
      rw (t, take-add (i * seat_length) 3 d, e, append_assoc (take (i * seat_length) d))

  seat-same : placed d (i * seat_length) (seat_at d i) ≡ d
  unfolding seat_at
  seat-same = placed_same d (i * seat_length) seat_length (omega arith)

  -- a record put where it stands changes nothing
  pub record_same : placed d (i * seat_length + 3) (drop 3 (seat_at d i)) ≡ d
  record_same =
      let l : length (drop 3 (seat_at d i)) ≡ record_length current = omega (arith, length-drop 3 (seat_at d i), length-seat) in
      placed-record (drop 3 (seat_at d i)) l ∙ ap (placed d (i * seat_length)) (take-append-drop 3 (seat_at d i)) ∙ seat-same
