-- A new seat: its first bytes are stored one by one and its record is lent.
use Prim.Native.Nat.{ℕ, ◌+◌, ◌/◌, ◌%◌, ◌-◌, ◌≤◌}
use mathlib.Core.Path.{◌≡◌, ap, ◌∙◌}
use mathlib.Core.List.{List, [], ◌∷◌, ◌++◌, append-nil}
use native.Mathlib.Omega.{arith}
use lib.ListN.{length, take, drop, set, length-set, drop_of_length-le}
use Rattle.lists.proofs.Cuts.{cut-length}
use Rattle.record_layout.specs.Version.{current}
use Rattle.record_layout.specs.Record.{record_length}
use Rattle.desk_seats.specs.Seats.{seat_length, seat_of}

-- a seat with its first three bytes stored
abbrev begun : List ℕ → ℕ → List ℕ
begun s m = set (set (set s 0 1) 1 (m / 256)) 2 (m % 256)

-- the bytes that are lent for its record
pub record-long : (s : List ℕ) (m : ℕ) → length s ≡ seat_length
    → length (take (length (begun s m) - 3) (drop 3 (begun s m))) ≡ record_length current
record-long s m l =
    let n : length (begun s m) ≡ seat_length = simp length-set l in
    cut-length (begun s m) 3 (length (begun s m) - 3) (omega arith) ∙ omega arith

-- its record, given back as b
pub new-seat : (s : List ℕ) (m : ℕ) (ys b : List ℕ) → length s ≡ seat_length → ys ≡ b
    → take 3 (begun s m) ++ (ys ++ drop (length (begun s m) - 3) (drop 3 (begun s m))) ≡ seat_of m b
new-seat [] m ys r l e = absurd (omega arith)
new-seat (a ∷ []) m ys r l e = absurd (omega arith)
new-seat (a ∷ b ∷ []) m ys r l e = absurd (omega arith)
new-seat (a ∷ b ∷ c ∷ s) m ys r l e =
    let k : length s ≤ length (begun (a ∷ b ∷ c ∷ s) m) - 3 = omega arith in
    ap (λ (z : List ℕ). 1 ∷ m / 256 ∷ m % 256 ∷ z) (ap (λ (z : List ℕ). ys ++ z) (drop_of_length-le s k) ∙ append-nil ys ∙ e)
