-- Over a line without a transparent dot the fallback changes nothing.
use Prim.Native.Nat.{ℕ}
use mathlib.Core.Path.{◌≡◌, refl, ap, ◌∙◌}
use mathlib.Core.List.{List}
use mathlib.Core.Bool.{Bool, true, false, cond, not}
use lib.ListN.{length, get_or}
use lib.Dec.{eqb}
use Rattle.lists.specs.Tab.{tab}
use Rattle.lists.proofs.Tab.{tab-ext, tab-entries}
use Rattle.lists.proofs.Search.{all-at, not-both}
use Rattle.surface.specs.Dots.{top_dot}
use Rattle.line_dots.specs.Compose.{finished}
use Rattle.line_dots.specs.Opaque.{opaque}

kept : (b : Bool) (x y : ℕ) → not b ≡ true → y ≡ cond b x y
kept true x y e = absurd (not-both e refl)
kept false x y e = refl

pub opaque-finished : (fallback : ℕ) (row : List ℕ) → length row ≡ 640 → opaque row ≡ true → row ≡ finished fallback row
unfolding finished opaque top_dot
opaque-finished fallback row long e =
    tab-entries row ∙ ap (tab (λ (k : ℕ). get_or row k 0)) long
    ∙ tab-ext _ _ 640 (λ k h. kept (eqb (get_or row k 0) 512) fallback (get_or row k 0) (all-at (λ j. not (eqb (get_or row j 0) 512)) 640 e k h))
