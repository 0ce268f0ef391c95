-- The bytes of the colours that a loop has passed, and of one more.
use mathlib.Core.Path.{◌≡◌}
use mathlib.Core.List.{List, [], ◌∷◌, ◌++◌}
use Prim.Native.Nat.{ℕ, ◌+◌, ◌*◌, ◌/◌, ◌%◌, ◌<◌}
use native.Mathlib.Omega.{arith}
use lib.ListN.{length, take, get_or}
use Rattle.lists.proofs.Placed.{take_more, length_so_far}
use Rattle.record_layout.specs.Fields.{pair, row_bytes}
use Rattle.record_layout.proofs.Fields.{row-length, row-append}

module _ (xs : List ℕ) (i : ℕ) (h : i < length xs) where
  pub colours-more : row_bytes pair (take (i + 1) xs) ≡ row_bytes pair (take i xs) ++ (get_or xs i 0 / 256 ∷ get_or xs i 0 % 256 ∷ [])
  colours-more = rw (take_more xs i h, row-append)

  pub colours-so-far : length (row_bytes pair (take i xs)) ≡ 2 * i
  colours-so-far = omega (arith, row-length pair (take i xs), length_so_far xs i h)
