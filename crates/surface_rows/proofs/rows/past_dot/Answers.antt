-- One test, by which the place lies in the row or not.
use borrow.Author.Tests.{le-leb, lt-leb}
use native.Mathlib.Omega.{arith}
use mathlib.Core.Path.{sym}
use Prim.Native.Nat.{◌+◌, ◌*◌}
use Rattle.lists.proofs.Cond.{if-true, if-false}
use borrow.Author.Rules.{rules}
use Rattle.surface_rows.proofs.rows.past_dot.Goals as goal

pub returns-then-x-n : goal.returns-then-x-n
returns-then-x-n c = let a = c.args in (sym (if-true _ _ _ (le-leb (a.x * 2 + 2) a.n (omega arith))), omega arith)

pub returns-else-x-n : goal.returns-else-x-n
returns-else-x-n c = let a = c.args in (sym (if-false _ _ _ (lt-leb (a.x * 2 + 2) a.n (omega arith))), omega arith)
