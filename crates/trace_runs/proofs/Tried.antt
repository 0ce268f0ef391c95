-- An entry that is tried, over parts: its write is that to the whole state, and with the place that is told it makes the run after it.
use Prim.Native.Nat.{ℕ}
use mathlib.Core.Path.{◌≡◌, sym, ap, ◌∙◌}
use mathlib.Core.Bool.{true, false, cond}
use lib.Dec.{eqb}
use Rattle.lists.proofs.Cond.{if-true, if-false}
use Rattle.reply.specs.Reply.{is_done}
use Rattle.register_parts.specs.Parts.{bare, state_with, written_of, answer_with}
use Rattle.register_parts.specs.declared.Palettes.{Palettes}
use Rattle.register_parts.specs.declared.Registers.{Registers}
use Rattle.register_parts.specs.declared.Written.{Written}
use Rattle.register_answers.specs.Rows.{write_by}
use Rattle.register_ports.specs.Ports.{port_writes}
use Rattle.register_ports.proofs.Apart.{ports_apart}
use Rattle.trace_form.specs.declared.entries.Entry.{Entry}
use Rattle.trace_runs.specs.declared.runs.Carried.{Carried}
use Rattle.trace_runs.specs.Runs.{port_number, applied, outcome, tried}
use Rattle.trace_runs.specs.Bounds.{run_with}

pub tried_done : (e : Entry) (i place : ℕ) (run : Carried) (w : Written) (p q : Palettes) → is_done run.reply ≡ true
    → answer_with w q ≡ applied (state_with run.registers p) e → place ≡ cond (is_done w.reply) 0 i
    → run_with (record { reply = w.reply; place = place; registers = w.registers }) q ≡ tried e i (run_with run p)
unfolding tried
tried_done e i place run w p q h made told =
    ap (λ (n : ℕ). run_with (record { reply = w.reply; place = n; registers = w.registers }) q) told
    ∙ ap (outcome i) made ∙ sym (if-true (is_done run.reply) (outcome i (applied (state_with run.registers p) e)) (run_with run p) h)

-- a write to a port, of registers alone, is the write to the state with its palettes
pub port_applied : (g : Registers) (e : Entry) (port : ℕ) (w : Written) (p : Palettes) → eqb e.kind 0 ≡ false → port ≡ port_number e.number
    → w ≡ written_of (write_by port_writes (bare g) port e.value) → answer_with w p ≡ applied (state_with g p) e
unfolding applied
port_applied g e port w p h same made =
    ap (λ (x : Written). answer_with x p) made ∙ sym (ports_apart g p port e.value)
    ∙ ap (λ (n : ℕ). write_by port_writes (state_with g p) n e.value) same
    ∙ sym (if-false (eqb e.kind 0) _ _ h)
