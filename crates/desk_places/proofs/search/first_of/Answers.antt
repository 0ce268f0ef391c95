-- The seats before the one found are not the member's.
use Prim.Native.Nat.{ℕ}
use mathlib.Core.Path.{◌≡◌}
use mathlib.Core.Bool.{Bool, true, false}
use Rattle.std.proofs.lemmas.Iterator.{first_from_Range}
use Rattle.desk_seats.specs.Seats.{seat_at, sits}
use borrow.Author.Rules.{rules}
use Rattle.desk_places.proofs.First.{first-is}
use Rattle.desk_places.proofs.search.first_of.Goals as goal

pub returns : goal.returns
returns c =
    let p : ℕ → Bool = λ i. sits c.args.member (seat_at c.args.desk.now i) in
    first-is p c.args.n c.find.result
    (first_from_Range _ _ _ _ (λ i. p i ≡ true) (λ i. p i ≡ false) c.find.ensures.ran (λ x q k. search rules) (λ x q k. search rules))
