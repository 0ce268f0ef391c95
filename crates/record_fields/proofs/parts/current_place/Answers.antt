-- What stands before the ULA clip has one place in every version (Search).
use Rattle.record_fields.proofs.Search.{place-stays, place-moves}
use native.Mathlib.Omega.{arith}
use Rattle.record_fields.proofs.parts.current_place.Goals as goal

pub returns-then-place-in_version : goal.returns-then-place-in_version
returns-then-place-in_version c = let a = c.args in place-stays a.v a.place c.in_version.result c.in_version.ensures (omega arith)

pub returns-else-place-in_version : goal.returns-else-place-in_version
returns-else-place-in_version c =
    let a = c.args in
    let clip = c.in_version in
    place-moves a.v a.place clip.result clip.ensures c.added.result c.added-else-place-in_version.result (omega arith) c.added.ensures.0 c.added-else-place-in_version.ensures.0
