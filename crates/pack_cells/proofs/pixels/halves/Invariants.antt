-- The loop of `halves`: the first 2 i pixels are right, two for each byte.
use Rattle.pack_cells.proofs.Bytes.{half-left, half-right}
use Rattle.lists.proofs.Tab.{tab-none, tab-two, tab-done}
use Rattle.lists.specs.Tab.{tab}
use Rattle.tilemap_turns.specs.Turns.{half_of}
use lib.ListN.{length, take, get_or, length-set}
use Prim.Native.Nat.{ℕ, ◌*◌, ◌/◌, ◌≤◌, ◌-◌}
use borrow.Author.Rules.{rules}
use native.Mathlib.Omega.{arith}
use mathlib.Core.Path.{◌≡◌, refl}
use Rattle.pack_cells.proofs.pixels.halves.Given as goal

abbrev pub invariant-loop-i : goal.invariant-loop-i
invariant-loop-i l =
    (l.i ≤ length l.bytes) × (l.i-end ≡ length l.bytes) × (length l.out ≡ length l.bytes * 2)
    × (take (l.i * 2) l.out ≡ tab (λ (k : ℕ). half_of k (get_or l.bytes (k / 2) 0)) (l.i * 2))

abbrev pub decreases-loop-i : goal.decreases-loop-i
decreases-loop-i l = length l.bytes - l.i
