-- The loop of `is_first`: no entry so far has the tile number.
use Rattle.sample_sheets.specs.Counted.{is_first}
use Rattle.pack_rule.specs.Sheet.{low_byte}
use Rattle.lists.specs.Search.{least}
use Rattle.lists.proofs.Search.{least-none, some_of}
use borrow.Author.Count.{below_none, below_more}
use borrow.Author.Tests.{eq-eqb, ne_eqb, le-ltb}
use lib.Dec.{eqb}
use mathlib.Core.Bool.{Bool, not}
use mathlib.Core.Path.{sym, ap}
use native.Mathlib.Omega.{arith}
use Prim.Native.Nat.{ℕ}
use borrow.Author.Rules.{rules}
use Rattle.sample_sheets.proofs.named.is_first.Goals as goal

pub loop-i-init : goal.loop-i-init
loop-i-init c = (search rules, below_none _)

pub returns-then-map-i : goal.returns-then-map-i
unfolding is_first low_byte
returns-then-map-i c = sym (ap not (some_of _ _ _ (omega arith) (eq-eqb _ _ c.if-map-i.true)))

pub loop-i-preserved : goal.loop-i-preserved
unfolding low_byte
loop-i-preserved c = (search rules, below_more _ _ c.loop-i.invariant.1 (ne_eqb _ _ c.if-map-i.false))

pub returns : goal.returns
unfolding is_first
returns c =
    let a = c.args in
    let p : ℕ → Bool = λ i. eqb (low_byte a.map.now i) (low_byte a.map.now a.c) in
    let e = least-none p a.c (λ k l. c.loop-i.invariant.1 k (omega (arith, l))) in
    sym (ap not (le-ltb (least p a.c) a.c (omega (arith, e))))
