-- `write_definition` takes the bytes of its cell where the definition is used; the cells listed are those of the packing.
use Rattle.pack_rule.proofs.Greedy.{cells-below}
use Rattle.pack_parts.proofs.Defined.{used, unused}
use lib.ListN.{get_or}
use Prim.Native.Nat.{◌≤◌, ◌<◌}
use native.Mathlib.Omega.{arith}
use mathlib.Core.Path.{◌∙◌}
use borrow.Author.Rules.{rules}
use Rattle.pack_parts.proofs.definitions.write_definition.Goals as goal

pub cell_bytes-requires : goal.cell_bytes-requires
cell_bytes-requires c =
    let d = c.args.d in
    let l : d < c.args.n = omega arith in
    let b : get_or c.args.cells.now d 0 < 1280 = rw (c.requires.4 d l) (cells-below c.args.pic.now 1280 d (omega (arith, l, c.requires.3))) in
    (c.requires.0, omega (arith, b, l, c.requires.2), c.requires.5)

pub returns-then-d-n : goal.returns-then-d-n
returns-then-d-n c =
    let d = c.args.d in
    let l : d < c.args.n = omega arith in
    c.cell_bytes.ensures ∙ used c.args.pic.now d _ (omega (arith, l, c.requires.3)) (c.requires.4 d l)

pub returns-else-d-n : goal.returns-else-d-n
returns-else-d-n c =
    let l : c.args.n ≤ c.args.d = omega arith in
    c.zero.ensures ∙ unused c.args.pic.now c.args.d _ (omega (arith, l, c.requires.3)) c.requires.5
