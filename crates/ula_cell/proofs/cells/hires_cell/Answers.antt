-- The bytes of two columns choose between the two dots.
use Prim.Native.Nat.{ℕ}
use lib.ListN.{get_or}
use mathlib.Core.Path.{◌∙◌, ap}
use Rattle.ula_cell.proofs.Fills.{hires-fill}
use borrow.Author.Rules.{rules}
use Rattle.ula_cell.proofs.cells.hires_cell.Goals as goal

pub returns : goal.returns
returns c =
    let bank = c.args.bank.now in
    c.dots.ensures
    ∙ hires-fill _ _ _ _ _ _ _ _ _ c.hires_column-even.ensures.1 c.hires_column-odd.ensures.1
    (ap (λ (n : ℕ). get_or bank n 0) c.hires_address-at.ensures.0) (ap (λ (n : ℕ). get_or bank n 0) c.hires_address-next.ensures.0)
