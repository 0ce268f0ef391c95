-- Bit 0 of the order says which lent line is upper.
use Rattle.layer_dots.proofs.Layered.{sprites-bounds, layer2-bounds, sprites-laid, layer2-laid}
use Rattle.layer_dots.proofs.lines.lay_order.Goals as goal

pub lay_level-requires : goal.lay_level-requires
lay_level-requires c = sprites-bounds _ _ _ _ _ c.requires.0 c.requires.1

pub lay_level-requires-else-order-eq0 : goal.lay_level-requires-else-order-eq0
lay_level-requires-else-order-eq0 c = layer2-bounds _ _ _ _ _ c.requires.0 c.requires.1

pub returns-then-order-eq0 : goal.returns-then-order-eq0
returns-then-order-eq0 c = sprites-laid _ _ _ _ _ c.requires.0 c.requires.1 _ c.if-order-eq0.true c.lay_level.ensures

pub returns-else-order-eq0 : goal.returns-else-order-eq0
returns-else-order-eq0 c = layer2-laid _ _ _ _ _ c.requires.0 c.requires.1 _ c.if-order-eq0.false c.lay_level-else-order-eq0.ensures
