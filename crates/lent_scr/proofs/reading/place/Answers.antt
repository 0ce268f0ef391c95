-- The length less the colours, where there are some.
use Prim.Native.Nat.{ℕ, ◌-◌}
use mathlib.Core.Path.{sym, ap, ◌∙◌}
use Rattle.lists.proofs.Cond.{if-true}
use borrow.Author.Rules.{rules}
use Rattle.lent_scr.proofs.reading.place.Goals as goal

pub returns-then-colours : goal.returns-then-colours
returns-then-colours c =
    let a = c.args in
    ap (λ (k : ℕ). a.length - k) c.colours_size-size.ensures.0 ∙ sym (if-true _ _ _ c.if-colours.true)
