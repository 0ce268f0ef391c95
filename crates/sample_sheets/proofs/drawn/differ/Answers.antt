-- `differ` sets the definitions and the map in a bank, and counts in it.
use Rattle.sample_sheets.specs.Counted.{wrong_in}
use Rattle.pack_rule.specs.Sheet.{sheet_setup}
use Rattle.lists.specs.Placed.{placed}
use mathlib.Core.List.{List}
use mathlib.Core.Path.{ap, ◌∙◌}
use Prim.Native.Nat.{ℕ}
use Rattle.sample_sheets.proofs.drawn.differ.Goals as goal

pub returns : goal.returns
returns c =
    let a = c.args in
    c.count_wrong.ensures
    ∙ ap (λ (b : List ℕ). wrong_in a.picture.now b (sheet_setup 0 13824 0))
    (c.put-2.ensures ∙ ap (λ (b : List ℕ). placed b 13824 a.map.now) c.put.ensures)
