-- `plain` is two writes from reset, one after the other.
use Rattle.sample_refusals.specs.States.{plain_state}
use Rattle.sample_refusals.proofs.states.plain.Goals as goal

pub returns : goal.returns
unfolding plain_state
returns c = rw (c.write_register-b.ensures, c.write_register-a.ensures, c.reset.ensures)
