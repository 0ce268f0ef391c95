-- A dot of a row for each shade, or two.
use Prim.Native.Nat.{ℕ, ◌+◌}
use mathlib.Core.Bool.{Bool}
use mathlib.Core.Path.{sym, ap, ◌∙◌}
use lib.ListN.{get_or}
use Rattle.lists.specs.Tab.{tab}
use Rattle.tilemap.specs.Dots.{across_of}
use Rattle.line_tiles.proofs.compose.row_dots.Goals as goal

pub returns-then-columns80 : goal.returns-then-columns80
returns-then-columns80 c =
    let s = c.args in
    c.single_dots.ensures ∙ ap (λ (b : Bool). tab (λ (k : ℕ). get_or s.row.now (s.skew + across_of b k) 0) 640) (sym c.if-columns80.true)

pub returns-else-columns80 : goal.returns-else-columns80
returns-else-columns80 c =
    let s = c.args in
    c.double_dots.ensures ∙ ap (λ (b : Bool). tab (λ (k : ℕ). get_or s.row.now (s.skew + across_of b k) 0) 640) (sym c.if-columns80.false)
