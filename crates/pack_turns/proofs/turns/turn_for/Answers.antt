-- The loop of `turn_for`: no turn so far makes the cell.
use Rattle.pack_classes.specs.Turned.{turned_into, turn_for}
use Rattle.lists.proofs.Search.{least-here, least-none}
use borrow.Author.Count.{below_none, below_more}
use mathlib.Core.Bool.{false}
use Prim.Native.Nat.{ℕ, ◌≤◌, ◌<◌, ◌-◌}
use borrow.Author.Rules.{rules}
use mathlib.Core.Path.{◌≡◌, sym, ◌∙◌}
use native.Mathlib.Omega.{arith}
use Rattle.pack_turns.proofs.turns.turn_for.Goals as goal

pub loop-t-init : goal.loop-t-init
loop-t-init c = (search rules, below_none _)

pub returns-then-same_turn : goal.returns-then-same_turn
unfolding turn_for
returns-then-same_turn c = (least-here _ 8 c.loop-t.t (omega arith) c.loop-t.invariant.1 (sym c.same_turn.ensures ∙ c.if-same_turn.true), omega arith)

pub loop-t-preserved : goal.loop-t-preserved
loop-t-preserved c = (search rules, below_more _ _ c.loop-t.invariant.1 (sym c.same_turn.ensures ∙ c.if-same_turn.false))

pub returns : goal.returns
unfolding turn_for
returns c = least-none _ 8 (λ k l. c.loop-t.invariant.1 k (omega (arith, l)))
