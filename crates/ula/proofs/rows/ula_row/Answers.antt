-- The dots of what the line shows, in the palette lent.
use Rattle.ula.proofs.Parts.{dots-of}
use borrow.Author.Rules.{rules}
use Rattle.ula.proofs.rows.ula_row.Goals as goal

pub returns : goal.returns
returns c =
    let s = c.args in
    dots-of s.u s.p s.ports s.frame s.clip.now s.plus.now s.bank.now s.pal.now _ _ _ c.line_row.ensures c.ula_line-l.ensures.0
