-- Rule 17.1: a trace as three bytes of head and entries of four bytes.
use Rattle.std.specs.Prelude.{ℕ, ◌+◌, ◌*◌, ◌-◌, ◌/◌, List, length, get_or}
use Rattle.trace_form.specs.declared.entries.Entry.{Entry}

-- how many entries of four bytes follow the head
abbrev pub entry_count : List ℕ → ℕ
entry_count t = (length t - 3) / 4

-- entry i, counted from 0: line, kind, number, byte
abbrev pub entry_at : List ℕ → ℕ → Entry
entry_at t i = record {
  line = get_or t (i * 4 + 3) 0;
  kind = get_or t (i * 4 + 4) 0;
  number = get_or t (i * 4 + 5) 0;
  value = get_or t (i * 4 + 6) 0;
}

-- the line that entry i is stamped with
abbrev pub line_at : List ℕ → ℕ → ℕ
line_at t i = (entry_at t i).line
