-- The first i entries are there.
use Rattle.std.proofs.Common.{◌≡◌, arith}
use Rattle.lists.proofs.Tab.{tab-none, tab-step, tab-done}
use Rattle.line_dots.specs.Shades.{shades_of}
use Rattle.line_tiles.proofs.tiles.shade_palette.Goals as goal

pub loop-i-init : goal.loop-i-init
loop-i-init c = tab-none _

pub loop-i-preserved : goal.loop-i-preserved
loop-i-preserved c = tab-step _ _ _ _ (omega arith) c.loop-i.invariant c.unless_transparent.ensures

pub returns : goal.returns
unfolding shades_of
returns c = let e : c.loop-i.i ≡ 256 = omega arith in tab-done _ _ 256 (omega arith) (rw e at c.loop-i.invariant)
