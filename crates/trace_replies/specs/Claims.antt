-- Rule 17.13: what a line by a trace is never refused for.
use Rattle.std.specs.Prelude.{ℕ, ◌≡◌, List}
use Rattle.reply.specs.declared.Reply.TheVariants.{NotLawful}
use Rattle.state.specs.declared.State.{State}
use Rattle.trace_runs.specs.Runs.{after}
use Rattle.trace_replies.specs.Replies.{run_reply}

-- the answer of a line names no 4, whatever state its entries began with, lawful or not
unfoldable pub NoFour : Type 0
NoFour = (s : State) (t : List ℕ) (L : ℕ) → run_reply (after s t L) ≡ NotLawful → ⊥
