-- Rules 3.2 and 3.31 together: what no single call states of lawful states.
use Rattle.std.specs.Prelude.{◌≡◌, true}
use Rattle.state.specs.Lawful.{lawful_state}
use Rattle.state.specs.Typed.{Typed}
use Rattle.state.specs.Reset.{reset_state}

-- the reset state is lawful, and typed
abbrev pub ResetLawful : Type 0
ResetLawful = (lawful_state reset_state ≡ true) × Typed reset_state
