-- A turn of the loop over a line's dots, and its end.
use Prim.Native.Nat.{ℕ, ◌+◌, ◌≤◌, ◌<◌}
use mathlib.Core.Path.{◌≡◌}
use mathlib.Core.List.{List}
use native.Mathlib.Numerals.{add-one}
use lib.ListN.{length, drop, get_or, drop_of_length-le}
use lib.Seq.{drop-cons}
use Rattle.line_sums.specs.declared.adler.Pair.{Pair}
use Rattle.line_sums.specs.Adler.{dot_added, all_added}

-- what dot i does to the sums comes before what the rest does
pub turn : (l : List ℕ) (i : ℕ) (s : Pair) → i < length l → all_added (drop i l) s ≡ all_added (drop (i + 1) l) (dot_added s (get_or l i 0))
turn l i s h = rw (add-one, drop-cons l i 0)

-- nothing is left past the end
pub ended : (l : List ℕ) (i : ℕ) (s : Pair) → length l ≤ i → all_added (drop i l) s ≡ s
ended l i s h = rw (drop_of_length-le l h)
