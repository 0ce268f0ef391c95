-- A part of a row, shade by shade.
use Prim.Native.Nat.{ℕ, ◌+◌, ◌≤◌, ◌<◌}
use mathlib.Core.Path.{◌≡◌, refl, ap, ◌∙◌}
use mathlib.Core.List.{List}
use lib.ListN.{length, take, drop, get_or}
use Rattle.std.proofs.lemmas.List.{get_or-take, get_or-drop}
use Rattle.lists.specs.Tab.{tab}
use Rattle.lists.proofs.Tab.{tab-ext, tab-entries}
use Rattle.lists.proofs.Cuts.{cut-length}

pub shade_in_cut : (row : List ℕ) (at n m k : ℕ) → m ≡ n → k < n → get_or (take m (drop at row)) k 0 ≡ get_or row (at + k) 0
shade_in_cut row at n m k e h = rw e (get_or-take n (drop at row) k 0 h ∙ get_or-drop at row k 0)

pub cut-shades : (row : List ℕ) (at n m : ℕ) → m ≡ n → at + n ≤ length row → take m (drop at row) ≡ tab (λ (k : ℕ). get_or row (at + k) 0) n
cut-shades row at n m e h =
    rw e
    (tab-entries (take n (drop at row)) ∙ ap (tab _) (cut-length row at n h) ∙ tab-ext _ _ n (λ k l. shade_in_cut row at n n k refl l))
