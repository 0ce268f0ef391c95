-- Each palette tells its own first bad colour, or what those behind it tell.
use mathlib.Core.Path.{◌≡◌, ◌∙◌}
use Rattle.record_faults.proofs.Walks.{four_palettes, palettes-walk}
use borrow.Author.Rules.{rules}
use Rattle.record_faults.proofs.faults.bad_palettes.Goals as goal

pub returns : goal.returns
returns c =
    let a = c.args in
    let n = c.added-n in
    let e : c.bad_colour.result ≡ four_palettes a.b.now n.result a.next = cc in
    e ∙ palettes-walk a.b.now n.result a.v a.next n.ensures.0
