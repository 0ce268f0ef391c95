-- The first k shades are right, of whatever the closure's pixels are.
use Rattle.std.proofs.Common.{◌≡◌, ℕ, ◌<◌}
use Rattle.tilemap.proofs.Rows.{Written}
use Rattle.tilemap.proofs.cells.eight_shades.Given as goal

abbrev pub invariant-loop-k : goal.invariant-loop-k
invariant-loop-k g l =
    (f : ℕ → ℕ) → ((k p : ℕ) → k < 8 → goal.F-post g l.pixel k p → p ≡ f k) → Written l.shades l.offset l.mark f l.out l.k
