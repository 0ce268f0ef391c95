-- Rules 17.1 and 17.4 to 17.6: what the entries of a trace make of a state, one after the other.
use Rattle.std.specs.Prelude.{ℕ, zero, suc, List, Bool, cond, leb, eqb}
use Rattle.reply.specs.Reply.{is_done}
use Rattle.reply.specs.declared.Reply.{Reply}
use Rattle.reply.specs.declared.Reply.TheVariants.{Done}
use Rattle.state.specs.declared.State.{State}
use Rattle.state.specs.declared.Answer.{Answer}
use Rattle.register_answers.specs.Rows.{write_by}
use Rattle.register_ports.specs.Ports.{port_writes}
use Rattle.register_tables.specs.Tables.{register_writes}
use Rattle.trace_form.specs.declared.entries.Entry.{Entry}
use Rattle.trace_form.specs.Entries.{entry_count, entry_at, line_at}

-- ports 0 to 3 are $FE, $FF, $BF3B and $FF3B
abbrev pub port_number : ℕ → ℕ
port_number n = cond (eqb n 0) 0x00FE (cond (eqb n 1) 0x00FF (cond (eqb n 2) 0xBF3B 0xFF3B))

-- an entry is a write to a register or to a port, by the tables that writes to a lawful state go by
unfoldable pub applied : State → Entry → Answer
applied s e =
    cond (eqb e.kind 0) (write_by register_writes s e.number e.value) (write_by port_writes s (port_number e.number) e.value)

-- a run: how far entries have brought a state, with the reply and the place of the one that was refused
pub record Run : Type 0 where
  pub reply : Reply
  pub place : ℕ
  pub state : State

-- before any entry
abbrev pub begun : State → Run
begun s = record { reply = Done; place = 0; state = s }

-- after entry i was tried: its place is told where it was refused, and is 0 else
abbrev pub outcome : ℕ → Answer → Run
outcome i a = record { reply = a.reply; place = cond (is_done a.reply) 0 i; state = a.state }

-- entry i, which is not tried once one before it was refused
unfoldable pub tried : Entry → ℕ → Run → Run
tried e i r = cond (is_done r.reply) (outcome i (applied r.state e)) r

abbrev pub tried_if : Bool → Entry → ℕ → Run → Run
tried_if b e i r = cond b (tried e i r) r

-- the entries below n whose line passes p, one after the other
unfoldable pub through : (ℕ → Bool) → List ℕ → ℕ → Run → Run
through p t zero r = r
through p t (suc n) r = tried_if (p (line_at t n)) (entry_at t n) n (through p t n r)

-- the entries of a trace whose line passes p
abbrev pub entries_by : (ℕ → Bool) → List ℕ → Run → Run
entries_by p t = through p t (entry_count t)

-- after every entry stamped L or less
unfoldable pub after : State → List ℕ → ℕ → Run
after s t L = entries_by (λ l. leb l L) t (begun s)
