-- A part of the row.
use Rattle.std.proofs.Common.{◌≡◌, ◌+◌, ◌-◌, ◌∙◌, arith}
use Rattle.line_tiles.proofs.Cut.{cut-shades}
use Rattle.line_tiles.proofs.compose.single_dots.Goals as goal

pub returns : goal.returns
returns c =
    let s = c.args in
    let n : s.skew + 640 - s.skew ≡ 640 = omega arith in
    c.copy_from_slice.ensures.after ∙ cut-shades s.row.now s.skew 640 _ n (omega arith)
