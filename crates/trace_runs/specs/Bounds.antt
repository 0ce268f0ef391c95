-- What the code that carries a run keeps to: a run in parts, how far a line reaches, a trace that is not refused. No part of what is answered.
use Rattle.std.specs.Prelude.{ℕ, ◌≤◌, ◌≡◌, List, true, length, ltb}
use Rattle.lists.specs.Bytes.{Bytes}
use Rattle.lists.specs.Search.{least}
use Rattle.reply.specs.declared.Reply.TheVariants.{Done}
use Rattle.state.specs.declared.State.{State}
use Rattle.register_parts.specs.declared.Palettes.{Palettes}
use Rattle.register_parts.specs.Parts.{registers_of, state_with}
use Rattle.trace_form.specs.Entries.{entry_count, line_at}
use Rattle.trace_form.specs.Judged.{rising}
use Rattle.trace_runs.specs.declared.runs.Carried.{Carried}
use Rattle.trace_runs.specs.Runs.{Run, through}

-- a run by what is carried of it and the palettes
abbrev pub run_with : Carried → Palettes → Run
run_with r p = record { reply = r.reply; place = r.place; state = state_with r.registers p }

-- what is carried before any entry
abbrev pub begun_with : State → Carried
begun_with s = record { reply = Done; place = 0; registers = registers_of s }

-- the place of the first entry stamped above L, or the number of entries
unfoldable pub reach : List ℕ → ℕ → ℕ
reach t L = least (λ i. ltb L (line_at t i)) (entry_count t)

-- the first n entries, whatever their lines
abbrev pub first : List ℕ → ℕ → Run → Run
first t n r = through (λ l. true) t n r

-- a trace that is not refused: it has its head, is no longer than two bytes can count, and no line falls
pub record Sound (t : List ℕ) : Type 0 where
  pub long : 3 ≤ length t
  pub short : length t ≤ 65537
  pub rise : rising t ≡ true
  pub bytes : Bytes t
