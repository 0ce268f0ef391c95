-- Rules 9.25, 9.26, 17.2 and 17.3: what a trace is refused for. The whole trace is judged, whichever line is asked for.
use Rattle.std.specs.Prelude.{ℕ, zero, suc, ◌+◌, ◌*◌, ◌-◌, ◌%◌, List, Bool, cond, ◌&&◌, ◌||◌, length, get_or, leb, eqb}
use Rattle.lists.specs.Search.{all}
use Rattle.reply.specs.declared.Reply.{Reply}
use Rattle.reply.specs.declared.Reply.TheVariants.{Done, BadTrace, LinesFall}
use Rattle.trace_form.specs.declared.entries.Entry.{Entry}
use Rattle.trace_form.specs.Entries.{entry_count, entry_at, line_at}

-- two bytes, high first, that count what follows them; version 1; and entries of which none is cut short
unfoldable pub headed : List ℕ → Bool
headed t =
    leb 3 (length t) && eqb (get_or t 0 0 * 256 + get_or t 1 0) (length t - 2) && eqb (get_or t 2 0) 1 && eqb ((length t - 3) % 4) 0

-- kind 0 is a register, of any number; kind 1 is a port, 0 to 3
abbrev pub known : Entry → Bool
known e = eqb e.kind 0 || (eqb e.kind 1 && leb e.number 3)

unfoldable pub all_known : List ℕ → Bool
all_known t = all (λ i. known (entry_at t i)) (entry_count t)

-- the line of the entry before entry i; 0 before the first
abbrev pub line_before : List ℕ → ℕ → ℕ
line_before t zero = 0
line_before t (suc i) = line_at t i

-- no line is below the one before it
unfoldable pub rising : List ℕ → Bool
rising t = all (λ i. leb (line_before t i) (line_at t i)) (entry_count t)

-- 25 over all of the trace, then 26
unfoldable pub trace_reply : List ℕ → Reply
trace_reply t = cond (headed t && all_known t) (cond (rising t) Done LinesFall) BadTrace
