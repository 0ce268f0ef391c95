-- A turn tests one colour more.
use native.Mathlib.Omega.{arith}
use Rattle.record_colours.proofs.LowFirst.{palette-more, palette-end}
use Rattle.record_colours.proofs.reading.is_palette.Goals as goal

pub loop-pair-preserved : goal.loop-pair-preserved
loop-pair-preserved c =
    let h = c.loop-pair in
    palette-more c.args.b.now c.args.at h.pair-index _ h.ok (omega arith) (c.pairs_at-pairs.ensures h.pair-index (omega arith)) h.invariant

pub returns : goal.returns
returns c = let h = c.loop-pair in palette-end c.args.b.now c.args.at h.pair-index h.ok (omega arith) h.invariant
