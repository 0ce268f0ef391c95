-- The bytes so far are tested.
use borrow.Author.Rules.{rules}
use native.Mathlib.Omega.{arith}
use Prim.Native.Nat.{◌≤◌, ◌-◌}
use mathlib.Core.Path.{◌≡◌, refl, ap, ◌∙◌}
use lib.Dec.{eqb}
use lib.ListN.{get_or}
use Rattle.lists.specs.Search.{all}
use Rattle.desk_seats.specs.Seats.{seat_length, is_free}
use Rattle.lists.proofs.Loops.{all_none, all-next}
use Rattle.desk_seats.proofs.seats.is_free.Given as goal

abbrev pub invariant-loop-byte : goal.invariant-loop-byte
invariant-loop-byte l = l.ok ≡ all (λ j. eqb (get_or l.seat j 0) 0) l.byte-index
