-- The loop of `write_definitions`: the definitions so far are right.
use Rattle.pack_rule.specs.Greedy.{def_byte, packed_defs}
use Rattle.lists.proofs.Tab.{tab-none, tab-part, tab-done}
use Rattle.lists.specs.Tab.{tab}
use lib.ListN.{length, take}
use Prim.Native.Nat.{◌*◌, ◌≤◌, ◌-◌}
use borrow.Author.Rules.{rules}
use native.Mathlib.Omega.{arith}
use mathlib.Core.Path.{◌≡◌}
use Rattle.pack_parts.proofs.definitions.write_definitions.Goals as goal

pub loop-d-init : goal.loop-d-init
loop-d-init c = (search rules, search rules, tab-none _)

pub loop-d-preserved : goal.loop-d-preserved
loop-d-preserved c =
    let h = c.loop-d in
    (search rules, search rules, tab-part _ _ _ _ _ 32 _ (omega arith) h.invariant.2 c.write_definition.ensures (omega arith))

pub returns : goal.returns
unfolding packed_defs
returns c = let h = c.loop-d in let e : h.d * 32 ≡ 8192 = omega arith in tab-done _ _ 8192 h.invariant.1 (rw e at h.invariant.2)
