-- The first x pixels are there, each stored twice.
use Rattle.std.proofs.Common.{◌≡◌, ℕ, ◌+◌, ◌-◌, get_or, arith}
use Rattle.lists.proofs.Tab.{tab-none, tab-done, tab-pair}
use Rattle.line_tiles.proofs.Cut.{shade_in_cut}
use Rattle.line_tiles.proofs.compose.double_dots.Goals as goal

pub loop-x-init : goal.loop-x-init
loop-x-init c = tab-none _

pub loop-x-preserved : goal.loop-x-preserved
loop-x-preserved c =
    let s = c.args in
    let n : s.skew + 320 - s.skew ≡ 320 = omega arith in
    tab-pair (λ (y : ℕ). get_or s.row.now (s.skew + y) 0) _ _ _ (omega arith) c.loop-x.invariant (shade_in_cut s.row.now s.skew 320 _ c.loop-x.x n (omega arith))

pub returns : goal.returns
returns c = let h = c.loop-x in let e : h.x ≡ 320 = omega arith in tab-done _ _ 640 (omega arith) (rw e at h.invariant)
