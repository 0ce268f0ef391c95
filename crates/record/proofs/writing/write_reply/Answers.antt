-- The two refusals in their order.
use mathlib.Core.Path.{ap, ◌∙◌}
use mathlib.Core.Bool.{cond}
use Prim.Native.Nat.{ℕ}
use lib.Dec.{eqb}
use Rattle.reply.specs.declared.Reply.TheVariants.{Done, BufferLength}
use Rattle.state.specs.Lawful.{lawful_state}
use Rattle.record_layout.specs.Version.{current}
use Rattle.record_layout.specs.Record.{record_length}
use Rattle.record.proofs.Written.{length-first}
use borrow.Author.Rules.{rules}
use Rattle.record.proofs.writing.write_reply.Goals as goal

pub returns : goal.returns
returns c =
    let a = c.args in
    let long = c.length_reply-long.ensures ∙ ap (λ (n : ℕ). cond (eqb a.length n) Done BufferLength) c.length_of.ensures in
    length-first (eqb a.length (record_length current)) (lawful_state a.s) _ _ _ long c.lawful_reply-sound.ensures c.first_of.ensures
