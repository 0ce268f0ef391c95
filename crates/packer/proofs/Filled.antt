-- A list that is told by its elements.
use mathlib.Core.Path.{◌≡◌, sym, ◌∙◌}
use mathlib.Core.List.{List}
use Prim.Native.Nat.{ℕ, ◌<◌}
use native.Mathlib.Omega.{arith}
use lib.ListN.{length, get_or}
use lib.Seq.{ext_get_or}
use Rattle.lists.specs.Tab.{tab}
use Rattle.lists.proofs.Tab.{length-tab, get_or-tab}

pub filled : (f : ℕ → ℕ) (n : ℕ) (xs : List ℕ) → length xs ≡ n → ((k : ℕ) → k < n → get_or xs k 0 ≡ f k) → xs ≡ tab f n
filled f n xs e h =
    ext_get_or 0 xs (tab f n) (e ∙ sym (length-tab f n))
    (λ i l. let m : i < n = omega (arith, l, e) in h i m ∙ sym (get_or-tab f n i m))
