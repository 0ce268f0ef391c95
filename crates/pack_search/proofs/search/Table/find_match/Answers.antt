-- The loop of `find_match`: no cell listed so far makes the cell.
use Rattle.pack_classes.specs.Turned.{can_make, turn_for}
use Rattle.lists.proofs.Search.{least-here, least-none}
use borrow.Author.Count.{below_none, below_more}
use borrow.Author.Tests.{lt-ltb, le-ltb}
use mathlib.Core.List.{[]}
use lib.ListN.{get_or}
use Prim.Native.Nat.{ℕ, ◌≤◌, ◌<◌}
use borrow.Author.Rules.{rules}
use native.Mathlib.Omega.{arith}
use mathlib.Core.Path.{◌≡◌}
use Rattle.pack_search.proofs.search.Table.find_match.Goals as goal

pub loop-k-init : goal.loop-k-init
loop-k-init c = (search rules, below_none _)

pub turn_marked-requires : goal.turn_marked-requires
turn_marked-requires c =
    let k = c.loop-k.k in
    let l : k < c.args.self.now.count = omega arith in
    let p = c.requires.1.listed in
    (p.transpose-is k l, p.mark-is k l, c.requires.0)

pub returns-in-Some : goal.returns-in-Some
unfolding can_make turn_for
returns-in-Some c =
    let h = c.loop-k in
    let e = c.in-Some.ensures in (
      least-here _ _ h.k (omega arith) h.invariant.1 (lt-ltb _ 8 (rw e.0 at e.1)),
      record { listed = omega arith; turn_is = e.0; turn_small = e.1 },
    )

pub loop-k-preserved : goal.loop-k-preserved
unfolding can_make turn_for
loop-k-preserved c =
    let h = c.loop-k in
    let l : 8 ≤ turn_for (get_or c.args.self.now.pixels h.k []) c.args.cell.now = omega (arith, c.in_default.ensures) in
    (search rules, below_more _ _ h.invariant.1 (le-ltb _ 8 l))

pub returns : goal.returns
returns c = least-none _ _ (λ k l. c.loop-k.invariant.1 k (omega (arith, l)))
