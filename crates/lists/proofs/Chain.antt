-- A chain of tests joined by `&&`, taken apart into its tests and put together again. By induction on the tests after the first.
use mathlib.Core.Path.{◌≡◌}
use mathlib.Core.Bool.{Bool, true, ◌&&◌}
use mathlib.Core.List.{List, [], ◌∷◌}
use Rattle.lists.proofs.Cond.{left-true, right-true}

abbrev pub chain : Bool → List Bool → Bool
chain a [] = a
chain a (b ∷ bs) = chain (a && b) bs

abbrev pub AllTrue : List Bool → Type 0
AllTrue [] = Unit
AllTrue (b ∷ bs) = (b ≡ true) × AllTrue bs

pub chain-apart : (a : Bool) (bs : List Bool) → chain a bs ≡ true → (a ≡ true) × AllTrue bs
chain-apart a [] e = (e, tt)
chain-apart a (b ∷ bs) e = let r = chain-apart (a && b) bs e in (left-true a b r.0, (right-true a b r.0, r.1))

pub chain-join : (a : Bool) (bs : List Bool) → a ≡ true → AllTrue bs → chain a bs ≡ true
chain-join a [] e z = e
chain-join a (b ∷ bs) e z = chain-join (a && b) bs (let f = z.0 in cc) z.1
