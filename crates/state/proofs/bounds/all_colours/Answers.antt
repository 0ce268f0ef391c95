-- The loop of `all_colours`: what was seen so far and what is left give the test of the whole palette.
use Rattle.std.proofs.Common.{arith}
use Rattle.state.proofs.Colours.{colours-more, colours-end}
use Rattle.state.proofs.bounds.all_colours.Goals as goal

pub loop-colour-preserved : goal.loop-colour-preserved
loop-colour-preserved c = let h = c.loop-colour in colours-more c.args.p.now h.colour-index h.ok (omega arith) h.invariant

pub returns : goal.returns
returns c = let h = c.loop-colour in colours-end c.args.p.now h.colour-index h.ok (omega arith) h.invariant
