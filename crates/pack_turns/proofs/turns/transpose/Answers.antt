-- The loop of `transpose`: the first i pixels are right.
use Rattle.lists.proofs.Tab.{tab-none, tab-step, tab-done}
use Rattle.lists.specs.Tab.{tab}
use Rattle.pack_turns.specs.Rows.{transpose_of}
use lib.ListN.{length, take, get_or, length-set}
use Prim.Native.Nat.{ℕ, ◌+◌, ◌*◌, ◌/◌, ◌%◌, ◌≤◌, ◌-◌}
use borrow.Author.Rules.{rules}
use native.Mathlib.Omega.{arith}
use mathlib.Core.Path.{◌≡◌, refl}
use Rattle.pack_turns.proofs.turns.transpose.Goals as goal

pub loop-i-init : goal.loop-i-init
loop-i-init c = (search rules, search rules, tab-none _)

pub loop-i-preserved : goal.loop-i-preserved
loop-i-preserved c = let h = c.loop-i in (omega arith, simp length-set h.invariant.1, tab-step _ _ _ _ (omega arith) h.invariant.2 refl)

pub returns : goal.returns
unfolding transpose_of
returns c = let h = c.loop-i in let e : h.i ≡ 64 = omega arith in tab-done _ _ 64 h.invariant.1 (rw e at h.invariant.2)
