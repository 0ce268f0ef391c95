-- The claims on the turns, from the computed tests.
use mathlib.Core.Path.{refl}
use native.Mathlib.Omega.{arith}
use Rattle.tilemap_turns.specs.Turns.{column_of, row_of}
use Rattle.pack_classes.specs.Claims.{TurnsClosed, TurnsUndone, TurnNone}
use Rattle.pack_classes.proofs.Group.{composed, divided}

pub turns_closed : TurnsClosed
turns_closed = composed

pub turns_undone : TurnsUndone
turns_undone t h = divided t 0 h (omega arith)

pub turn_none : TurnNone
unfolding column_of row_of
turn_none x y = (refl, refl)
