-- The loop of `all_colours`: what was seen so far and what is left give the test of the whole palette.
use Rattle.std.proofs.Common.{◌≡◌, ◌&&◌, drop}
use Rattle.state.specs.Lawful.{all_colours}
use Rattle.state.proofs.bounds.all_colours.Given as goal

abbrev pub invariant-loop-colour : goal.invariant-loop-colour
invariant-loop-colour l = all_colours l.p ≡ (l.ok && all_colours (drop l.colour-index l.p))
