-- `enter` is one of two writes, by the number of its two bytes.
use Rattle.sample_refusals.proofs.Writes.{register-entered, port-entered}
use Prim.Native.Nat.{◌+◌, ◌*◌}
use Rattle.sample_refusals.proofs.states.enter.Goals as goal

pub returns-then-n-lt254 : goal.returns-then-n-lt254
returns-then-n-lt254 c =
    let a = c.args in
    let high = c.from in
    let low = c.from-2 in
    register-entered a.s a.high a.low a.value (high.result * 256 + low.result) (rw (high.ensures, low.ensures)) c.write_register-a.result c.if-n-lt254.true c.write_register-a.ensures

pub returns-else-n-lt254 : goal.returns-else-n-lt254
returns-else-n-lt254 c =
    let a = c.args in
    let high = c.from in
    let low = c.from-2 in
    port-entered a.s a.high a.low a.value (high.result * 256 + low.result) (rw (high.ensures, low.ensures)) c.write_port-b.result c.if-n-lt254.false c.write_port-b.ensures
