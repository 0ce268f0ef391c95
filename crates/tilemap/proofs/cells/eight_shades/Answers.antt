-- The first k shades are right, of whatever the closure's pixels are.
use Rattle.std.proofs.Common.{ℕ, ◌≡◌, ap, ◌∙◌, rules}
use Rattle.tilemap.specs.Shades.{shade_from}
use Rattle.tilemap.proofs.Rows.{written_none, written_step, written-done}
use Rattle.tilemap.proofs.cells.eight_shades.Goals as goal

pub loop-k-init : goal.loop-k-init
loop-k-init g c = λ f h. written_none _ _ _ _ _ (search rules)

pub loop-k-preserved : goal.loop-k-preserved
loop-k-preserved g c = λ f h.
    let a = c.args in
    let k = c.loop-k.k in
    let r : c.pixel.result ≡ f k = h k c.pixel.result (search rules) c.pixel.ensures in
    written_step _ _ _ _ _ k _ (c.loop-k.invariant f h) (search rules) (c.shade_from.ensures ∙ ap (λ (p : ℕ). shade_from a.shades.now a.offset a.mark p) r)

pub returns : goal.returns
returns g c = λ f h. written-done _ _ _ _ _ _ (c.loop-k.invariant f h) (search rules)
