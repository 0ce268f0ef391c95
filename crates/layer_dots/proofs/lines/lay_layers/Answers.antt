-- The order and the fallback by the registers.
use native.Mathlib.Omega.{arith}
use Rattle.layer_dots.proofs.Layered.{by-registers, row_laid}
use Rattle.layer_dots.proofs.lines.lay_layers.Goals as goal

pub lay_order-requires : goal.lay_order-requires
lay_order-requires c =
    by-registers c.args.u _ _ _ _ _ c.layer_order.ensures c.widen-fallback.ensures (omega (arith, c.well_formed.0.1.1.1.1.1.0)) c.requires

pub returns : goal.returns
returns c =
    let a = c.args in
    row_laid a.u _ _ _ _ _ c.layer_order.ensures c.widen-fallback.ensures _ c.lay_order.ensures
