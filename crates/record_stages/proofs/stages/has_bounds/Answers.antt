-- No place is bad exactly where the flags are 0 or 1 and the fields of the state keep their bounds.
use native.Mathlib.Omega.{arith}
use Rattle.record_layout.specs.Record.{state_as}
use Rattle.record_stages.proofs.Groups.{fields-kept, bounds-kept}
use borrow.Author.Rules.{rules}
use Rattle.record_stages.proofs.stages.has_bounds.Goals as goal

pub returns : goal.returns
returns c =
    let n = c.added-n.ensures.0 in
    let registers =
    fields-kept (state_as c.args.v c.args.b.now) _ _ _ _ _ _ c.ula_at-u.ensures c.palette_at-p.ensures
    (c.tiles_at-t.ensures c.args.v) c.turns_at-turns.ensures c.ports_at-ports.ensures c.lawful_registers-registers.ensures in
    bounds-kept c.args.v c.args.b.now c.requires _ _ (omega (arith, n)) (omega (arith, n)) c.lawful_registers-registers.result _ registers c.has_palettes-palettes.ensures
