-- What a search over a range finds is the least number that passes, where one does.
use Rattle.std.specs.Prelude.{Option, Some, None, MatchOption, Result, Ok, Err, is_some}
use Rattle.std.specs.Option.{ok_or}
use Rattle.reply.specs.declared.Reply.{Reply}
use Prim.Native.Nat.{ℕ, ◌≤◌, ◌<◌, zero-le}
use mathlib.Core.Path.{◌≡◌, refl, ap, ◌∙◌}
use mathlib.Core.Bool.{Bool, true, false, cond}
use native.Mathlib.Omega.{arith}
use borrow.Author.Tests.{lt-ltb, le-ltb}
use Rattle.lists.specs.Search.{least, some}
use Rattle.lists.proofs.Search.{least-here, least-none}
use Rattle.desk_places.specs.Desks.{first_below}

-- what std says of `find` over 0..n
pub first-is : (p : ℕ → Bool) (n : ℕ) (r : Option ℕ)
    → MatchOption r ((k : ℕ) → 0 ≤ k → k < n → p k ≡ false) (λ i. (0 ≤ i) × (i < n) × (p i ≡ true) × ((k : ℕ) → 0 ≤ k → k < i → p k ≡ false))
    → r ≡ first_below p n
unfolding first_below
first-is p n None h =
    let e : n ≡ least p n = least-none p n (λ k l. h k zero-le l) in
    rw (le-ltb (least p n) n (omega arith))
first-is p n (Some i) h =
    let e : i ≡ least p n = least-here p n i h.1 (λ k l. h.3 k zero-le l) h.2 in
    rw (lt-ltb (least p n) n (omega (arith, h.1))) (ap Some e)

-- whether one was found
pub found-some : (p : ℕ → Bool) (n : ℕ) → is_some (first_below p n) ≡ some p n
unfolding first_below
found-some p n = go (some p n)
  where
    go : (b : Bool) → is_some (cond b (Some (least p n)) None) ≡ b
    go true = refl
    go false = refl

-- the one found, or a refusal
pub found_or : (p : ℕ → Bool) (n : ℕ) (r : Reply) → ok_or (first_below p n) r ≡ cond (some p n) (Ok (least p n)) (Err r)
unfolding first_below
found_or p n r = go (some p n)
  where
    go : (b : Bool) → ok_or (cond b (Some (least p n)) None) r ≡ cond b (Ok (least p n)) (Err r)
    go true = refl
    go false = refl
