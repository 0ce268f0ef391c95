use Rattle.std.proofs.Common.{◌≤◌, sym, ap, ◌∙◌, length, arith}
use Rattle.line_sums.specs.Adler.{joined, line_sum}
use Rattle.line_sums.proofs.Turn.{ended}
use Rattle.line_sums.proofs.adler.line_sum.Goals as goal

pub returns : goal.returns
unfolding line_sum
returns c =
    let h = c.loop-dot in
    let p : length c.args.dots.now ≤ h.dot-index = omega arith in
    ap joined (sym (ended c.args.dots.now h.dot-index h.s p) ∙ h.invariant.1)
