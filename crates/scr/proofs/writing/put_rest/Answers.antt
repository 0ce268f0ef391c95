-- One byte or none, then 64 or none (Write).
use Prim.Native.Nat.{ℕ, ◌+◌, ◌-◌, ◌≤◌}
use mathlib.Core.Path.{ap, ◌∙◌}
use mathlib.Core.List.{List}
use native.Mathlib.Omega.{arith}
use lib.ListN.{length, take, drop}
use Rattle.lists.specs.Placed.{placed}
use Rattle.scr_forms.proofs.Rows.{port-size}
use Rattle.scr.proofs.Write.{rest_put}
use borrow.Author.Rules.{rules}
use Rattle.scr.proofs.writing.put_rest.Goals as goal

pub put-requires : goal.put-requires
put-requires c =
    let r = c.row_of-row in
    let h : c.args.at + r.result.port ≤ length c.args.file.now = omega (arith, port-size c.args.mode r.result r.ensures.0, c.requires) in
    search (rules, h)

pub put-requires-2 : goal.put-requires-2
put-requires-2 c =
    let r = c.row_of-row in
    let k = c.colours_size-colours in
    let h : c.args.at + r.result.port + k.result ≤ length c.args.file.now = omega (arith, port-size c.args.mode r.result r.ensures.0, k.ensures.0, c.requires) in
    search (rules, h)

pub returns : goal.returns
returns c =
    let r = c.row_of-row in
    let k = c.colours_size-colours in
    let p = port-size c.args.mode r.result r.ensures.0 in (
      omega (arith, p, k.ensures.0),
      c.put-2.ensures
          ∙ ap (λ (x : List ℕ). placed x (c.args.at + r.result.port) (take (k.result - 0) (drop 0 c.args.plus))) c.put.ensures
          ∙ rest_put c.args.mode c.args.file.now c.args.plus c.args.at r.result.port k.result c.args.timex c.args.on p k.ensures.0 (search rules) c.requires,
    )
