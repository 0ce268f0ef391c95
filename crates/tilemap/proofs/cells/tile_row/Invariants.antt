-- The shades of the first i cells are right, and what lies after them is as it was.
use Rattle.std.proofs.Common.{◌≡◌, ◌++◌, ℕ, ◌+◌, ◌*◌, ◌/◌, ◌%◌, drop}
use Rattle.lists.specs.Tab.{tab}
use Rattle.state_bits.specs.Bits.{width_of}
use Rattle.tilemap.specs.Shades.{shade_at}
use Rattle.tilemap.proofs.cells.tile_row.Given as goal

abbrev pub invariant-loop-i : goal.invariant-loop-i
invariant-loop-i l =
    l.out ≡ tab (λ (k : ℕ). shade_at l.t l.shades l.bank ((l.t.x / 8 * 8 + k) % width_of l.t.columns80) l.ty) (l.i * 8) ++ drop (l.i * 8) l.initial.out
