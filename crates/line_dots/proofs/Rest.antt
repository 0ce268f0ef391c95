-- What a row still holds while it is changed from its start on.
use Prim.Native.Nat.{ℕ, ◌+◌, ◌≤◌}
use mathlib.Core.Path.{◌≡◌, ◌∙◌}
use mathlib.Core.List.{List}
use native.Mathlib.Omega.{arith}
use lib.ListN.{get_or, set}
use lib.Seq.{get_or-set_other}

-- what a row still holds after a store below it
pub rest-step : (out old : List ℕ) (k a : ℕ) → ((j : ℕ) → k ≤ j → get_or out j 0 ≡ get_or old j 0) → (j : ℕ) → k + 1 ≤ j → get_or (set out k a) j 0 ≡ get_or old j 0
rest-step out old k a h j g = get_or-set_other out k j a 0 (λ e. omega arith) ∙ h j (omega arith)
