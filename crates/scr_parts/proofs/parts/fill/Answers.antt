-- Two parts placed, by the row of the mode.
use Prim.Native.Nat.{ℕ, ◌+◌, ◌-◌, ◌≤◌}
use native.Mathlib.Omega.{arith}
use mathlib.Core.Path.{ap, ◌∙◌}
use mathlib.Core.List.{List}
use lib.ListN.{length, take, drop}
use Rattle.lists.specs.Placed.{placed}
use Rattle.scr_forms.proofs.Rows.{parts-size}
use Rattle.scr_parts.proofs.Two.{filled-two}
use borrow.Author.Rules.{rules}
use Rattle.scr_parts.proofs.parts.fill.Goals as goal

pub slice_bounds-put-end : goal.slice_bounds-put-end
slice_bounds-put-end c =
    let r = c.row_of-row in
    let h : r.result.first ≤ length c.args.file.now = omega (arith, parts-size c.args.mode r.result r.ensures.0, c.requires.1) in
    search (rules, h)

pub slice_bounds-put-end-2 : goal.slice_bounds-put-end-2
slice_bounds-put-end-2 c =
    let r = c.row_of-row in
    let h : r.result.first + r.result.second ≤ length c.args.file.now = omega (arith, parts-size c.args.mode r.result r.ensures.0, c.requires.1) in
    search (rules, h)

pub returns : goal.returns
returns c =
    let r = c.row_of-row in
    c.put-2.ensures
    ∙ ap (λ (x : List ℕ). placed x 0x2000 (take (r.result.first + r.result.second - r.result.first) (drop r.result.first c.args.file.now))) c.put.ensures
    ∙ filled-two c.args.mode r.result r.ensures.0 c.args.bank.now c.args.file.now
