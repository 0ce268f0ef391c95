-- The loop of `same`: the rows so far are equal.
use Rattle.pack_turns.specs.Rows.{row_same, rows_same}
use Rattle.tilemap_turns.specs.Turns.{mirrored}
use Rattle.lists.proofs.Search.{all-not, all_of}
use borrow.Author.Count.{below_none, below_more}
use mathlib.Core.Bool.{Bool, true}
use mathlib.Core.List.{List}
use Prim.Native.Nat.{ℕ, ◌*◌, ◌≤◌, ◌<◌, ◌-◌}
use borrow.Author.Rules.{rules}
use mathlib.Core.Path.{◌≡◌, sym, ◌∙◌}
use native.Mathlib.Omega.{arith}
use Rattle.pack_turns.proofs.turns.same.Goals as goal

-- the answer for a row, in the words of the invariant
row_is : (rows cell : List ℕ) (down back : Bool) (y j : ℕ) (r : Bool) → j ≡ mirrored down y → r ≡ row_same rows (j * 8) back cell (y * 8)
    → row_same rows (mirrored down y * 8) back cell (y * 8) ≡ r
row_is rows cell down back y j r e q = sym (rw (← e) q)

pub loop-y-init : goal.loop-y-init
loop-y-init c = (search rules, below_none _)

pub returns-then-not-row_same : goal.returns-then-not-row_same
unfolding rows_same
returns-then-not-row_same c =
    let h = c.loop-y in
    let a = c.args in
    sym (all-not _ 8 h.y (omega arith) (row_is _ _ a.down _ h.y _ _ c.mirror.ensures.0 c.row_same.ensures ∙ c.if-not-row_same.true))

pub loop-y-preserved : goal.loop-y-preserved
loop-y-preserved c =
    let h = c.loop-y in
    let a = c.args in
    (search rules, below_more _ _ h.invariant.1 (row_is _ _ a.down _ h.y _ _ c.mirror.ensures.0 c.row_same.ensures ∙ c.if-not-row_same.false))

pub returns : goal.returns
unfolding rows_same
returns c = sym (all_of _ 8 (λ k l. c.loop-y.invariant.1 k (omega (arith, l))))
