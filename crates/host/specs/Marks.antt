-- What is left of a marked buffer; no part of any rule.
use Rattle.std.specs.Prelude.{ℕ, List, Bool, nat_eq}
use Rattle.std.specs.List.{list_all}

-- every byte is the mark
abbrev pub all_marked : List ℕ → Bool
all_marked = list_all (λ x. nat_eq x 85)
