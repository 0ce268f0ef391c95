-- The ULA's registers are those of the state in the record.
use mathlib.Core.Bool.{◌&&◌}
use mathlib.Core.Path.{ap}
use lib.Dec.{eqb}
use Rattle.state.specs.declared.Ula.{Ula}
use borrow.Author.Rules.{rules}
use Rattle.record_moves.proofs.bytes.pairs_agree.Goals as goal

pub returns : goal.returns
returns c = ap (λ (u : Ula). eqb u.x u.loresx && eqb u.y u.loresy) c.ula_at-u.ensures
