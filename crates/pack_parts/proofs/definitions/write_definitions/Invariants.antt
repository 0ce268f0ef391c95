-- The loop of `write_definitions`: the definitions so far are right.
use Rattle.pack_rule.specs.Greedy.{def_byte, packed_defs}
use Rattle.lists.proofs.Tab.{tab-none, tab-part, tab-done}
use Rattle.lists.specs.Tab.{tab}
use lib.ListN.{length, take}
use Prim.Native.Nat.{◌*◌, ◌≤◌, ◌-◌}
use borrow.Author.Rules.{rules}
use native.Mathlib.Omega.{arith}
use mathlib.Core.Path.{◌≡◌}
use Rattle.pack_parts.proofs.definitions.write_definitions.Given as goal

abbrev pub invariant-loop-d : goal.invariant-loop-d
invariant-loop-d l = (l.d ≤ 256) × (length l.defs ≡ 8192) × (take (l.d * 32) l.defs ≡ tab (def_byte l.pic) (l.d * 32))

abbrev pub decreases-loop-d : goal.decreases-loop-d
decreases-loop-d l = 256 - l.d
