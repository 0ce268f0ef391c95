-- What the calls place, one after the other, is the record in the other version.
use native.Mathlib.Omega.{arith}
use Rattle.record_moves.proofs.Moved.{moved_made}
use borrow.Author.Rules.{rules}
use Rattle.record_moves.proofs.bytes.put_in.Goals as goal

pub returns : goal.returns
returns c =
    let a = c.args in
    let add = c.added.ensures in
    moved_made a.v a.w a.b.now (λ i. omega (arith, c.type_inv.b i)) c.requires.1 c.requires.2 _ _ _ _ _ _ _ _ _ c.requires.3
    c.head_of-head.ensures add.0 add.1 c.in_version.ensures c.in_version-rest.ensures
    c.put.ensures c.put-2.ensures c.put-3.ensures c.put-4.ensures
