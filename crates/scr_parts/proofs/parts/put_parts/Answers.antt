-- Two parts placed, by the row of the mode.
use Prim.Native.Nat.{ℕ, ◌+◌, ◌-◌, ◌≤◌}
use native.Mathlib.Omega.{arith}
use mathlib.Core.Path.{ap, ◌∙◌}
use mathlib.Core.List.{List}
use lib.ListN.{length, take, drop}
use Rattle.lists.specs.Placed.{placed}
use Rattle.scr_forms.proofs.Rows.{parts-size}
use Rattle.scr_parts.proofs.Two.{put_two}
use borrow.Author.Rules.{rules}
use Rattle.scr_parts.proofs.parts.put_parts.Goals as goal

pub put-requires : goal.put-requires
put-requires c =
    let r = c.row_of-row in
    let h : r.result.first ≤ length c.args.target.now = omega (arith, parts-size c.args.mode r.result r.ensures.0, c.requires.1) in
    search (rules, h)

pub put-requires-2 : goal.put-requires-2
put-requires-2 c =
    let r = c.row_of-row in
    let h : r.result.first + r.result.second ≤ length c.args.target.now = omega (arith, parts-size c.args.mode r.result r.ensures.0, c.requires.1) in
    search (rules, h)

pub returns : goal.returns
returns c =
    let r = c.row_of-row in (
      parts-size c.args.mode r.result r.ensures.0,
      c.put-2.ensures
          ∙ ap (λ (x : List ℕ). placed x r.result.first (take (0x2000 + r.result.second - 0x2000) (drop 0x2000 c.args.bank.now))) c.put.ensures
          ∙ put_two c.args.mode r.result r.ensures.0 c.args.target.now c.args.bank.now c.requires.0 c.requires.1,
    )
