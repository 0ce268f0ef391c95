-- No line by a trace is refused by 4: no row of a write refuses by it, so no entry does, and the state alone is refused by others.
use Prim.Native.Nat.{ℕ}
use lib.Dec.{leb}
use Rattle.reply.specs.Reply.{is_done}
use Rattle.reply.specs.First.{first_of}
use Rattle.reply.proofs.NotFour.{NotFour, done-not-four, test-not-four}
use Rattle.register_laws.proofs.Claims.{register-not-four, port-not-four}
use Rattle.line_replies.specs.Replies.{state_reply}
use Rattle.line_replies.proofs.NotFour.{state-not-four}
use Rattle.trace_form.specs.Entries.{entry_count, entry_at}
use Rattle.trace_runs.specs.Runs.{port_number, begun, after}
use Rattle.trace_runs.proofs.Through.{through-keeps, tried-by}
use Rattle.trace_replies.specs.Replies.{run_reply}
use Rattle.trace_replies.specs.Claims.{NoFour}

pub no_four : NoFour
unfolding NoFour run_reply first_of after
no_four s t L =
    let r = after s t L in
    let q = r.state in
    test-not-four (is_done r.reply) (state_reply q.ula q.tiles q.palette q.ports) r.reply (state-not-four q.ula q.tiles q.palette q.ports)
    (through-keeps (λ x. NotFour x.reply) (λ l. leb l L) t
    (λ i x h. let e = entry_at t i in tried-by (λ y. NotFour y.reply) e i x (register-not-four x.state e.number e.value) (port-not-four x.state (port_number e.number) e.value) h)
    (entry_count t) (begun s) done-not-four)
