-- `entry_shades` shows a column or a row of the definition by its turn.
use Rattle.std.proofs.Common.{ℕ, ◌+◌, ◌*◌, ◌∙◌, true, false, eq-eqb, ne_eqb, rules}
use Rattle.tilemap_rule.specs.Index.{pixel_at}
use Rattle.tilemap_turns.specs.Turns.{mirrored}
use Rattle.tilemap.proofs.Rows.{turned-shades, turned_back}
use Rattle.tilemap.proofs.cells.entry_shades.Goals as goal

pub returns-then-turn-eq1 : goal.returns-then-turn-eq1
returns-then-turn-eq1 c =
    let s = c.args in
    let at = s.t.definitions + c.tile_number.result * 32 in
    c.eight_shades.ensures (λ (k : ℕ). pixel_at s.bank.now at c.mirror-b.result (mirrored (turned_back s.e) k)) (λ k p h q. search rules)
    ∙ turned-shades s.t s.shades.now s.bank.now s.e s.y _ _ c.tile_number.ensures.0 c.mirror-b.ensures.0 true (eq-eqb _ _ c.if-turn-eq1.true)

pub returns-else-turn-eq1 : goal.returns-else-turn-eq1
returns-else-turn-eq1 c =
    let s = c.args in
    let at = s.t.definitions + c.tile_number.result * 32 in
    c.eight_shades-else-turn-eq1.ensures (λ (k : ℕ). pixel_at s.bank.now at (mirrored (turned_back s.e) k) c.mirror-b.result) (λ k p h q. search rules)
    ∙ turned-shades s.t s.shades.now s.bank.now s.e s.y _ _ c.tile_number.ensures.0 c.mirror-b.ensures.0 false (ne_eqb _ _ c.if-turn-eq1.false)
