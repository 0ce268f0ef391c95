-- Bytes put together and cut apart are bytes. By induction on the first list.
use Prim.Native.Nat.{ℕ, zero, suc, ◌+◌, ◌≤◌, ◌<◌}
use mathlib.Core.Path.{◌≡◌, refl}
use mathlib.Core.Bool.{Bool, true, false}
use mathlib.Core.List.{List, [], ◌∷◌, ◌++◌}
use native.Mathlib.Omega.{arith}
use lib.ListN.{length, take, drop, get_or, replicate, length-take, get_or-eq_default}
use lib.Seq.{get_or-take, get_or-drop}
use lib.Dec.{ltb, lit<}
use borrow.Author.Tests.{ltb-true, ltb-false}
use Rattle.lists.specs.Bytes.{Bytes}
use Rattle.lists.specs.Placed.{placed}

pub bytes-none : Bytes []
bytes-none i = lit< tt

pub bytes-one-more : (a : ℕ) (xs : List ℕ) → a < 256 → Bytes xs → Bytes (a ∷ xs)
bytes-one-more a xs l y zero = l
bytes-one-more a xs l y (suc i) = y i

pub bytes-append : (xs ys : List ℕ) → Bytes xs → Bytes ys → Bytes (xs ++ ys)
bytes-append [] ys x y = y
bytes-append (a ∷ xs) ys x y = bytes-one-more a (xs ++ ys) (x 0) (bytes-append xs ys (λ i. x (suc i)) y)

pub bytes_take : (n : ℕ) (l : List ℕ) → Bytes l → Bytes (take n l)
bytes_take n l y i = go (ltb i n) refl
  where
    go : (b : Bool) → ltb i n ≡ b → get_or (take n l) i 0 < 256
    go true e = rw (get_or-take n l i 0 (ltb-true i n e)) (y i)
    go false e =
        let k : length (take n l) ≤ i = omega (arith, length-take n l, ltb-false i n e) in
        rw (get_or-eq_default (take n l) 0 k) (lit< tt)

pub bytes_drop : (n : ℕ) (l : List ℕ) → Bytes l → Bytes (drop n l)
bytes_drop n l y i = rw (get_or-drop n l i 0) (y (n + i))

pub bytes-placed : (b ys : List ℕ) (at : ℕ) → Bytes b → Bytes ys → Bytes (placed b at ys)
unfolding placed
bytes-placed b ys at x y =
    bytes-append (take at b ++ ys) (drop (at + length ys) b) (bytes-append (take at b) ys (bytes_take at b x) y) (bytes_drop (at + length ys) b x)

pub bytes-zeros : (n : ℕ) → Bytes (replicate n 0)
bytes-zeros zero = bytes-none
bytes-zeros (suc n) = bytes-one-more 0 (replicate n 0) (lit< tt) (bytes-zeros n)
