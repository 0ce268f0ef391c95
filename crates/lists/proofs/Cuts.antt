-- The laws of a part that is cut out of a list: `take` with `drop`.
use Prim.Native.Nat.{ℕ, ◌+◌, ◌≤◌}
use mathlib.Core.Path.{◌≡◌, refl}
use mathlib.Core.Bool.{Bool, true, false}
use mathlib.Core.List.{List, ◌++◌}
use native.Mathlib.Omega.{arith}
use lib.Dec.{leb}
use lib.ListN.{length, take, drop, length-take, length-drop, drop_of_length-le}
use lib.Seq.{length-take-le, take-append-le, drop-append-le, drop_at, take-add, take-nil}
use borrow.Author.Tests.{leb-true, leb-false}

pub take-drop : (m n : ℕ) (l : List ℕ) → take n (drop m l) ≡ drop m (take (m + n) l)
take-drop m n l = go (leb m (length l)) refl
  where
    go : (b : Bool) → leb m (length l) ≡ b → take n (drop m l) ≡ drop m (take (m + n) l)
    go true e =
        let k : length (take m l) ≡ m = length-take-le m l (leb-true m (length l) e) in
        rw (take-add m n l, drop_at (take m l) (take n (drop m l)) m k)
    go false e =
        let k : length l ≤ m = omega (arith, leb-false m (length l) e) in
        let j : length (take (m + n) l) ≤ m = omega (arith, length-take (m + n) l) in
        rw (drop_of_length-le l k, drop_of_length-le (take (m + n) l) j, take-nil)

pub cut-length : (l : List ℕ) (at n : ℕ) → at + n ≤ length l → length (take n (drop at l)) ≡ n
cut-length l at n h = length-take-le n (drop at l) (simp length-drop (omega arith))

-- a part of the first of two lists
pub cut-front : (xs ys : List ℕ) (at n : ℕ) → at + n ≤ length xs → take n (drop at (xs ++ ys)) ≡ take n (drop at xs)
cut-front xs ys at n h =
    let l : n ≤ length (drop at xs) = omega (arith, length-drop at xs) in
    let k : at ≤ length xs = omega arith in
    rw (drop-append-le at xs ys k, take-append-le n (drop at xs) ys l)
