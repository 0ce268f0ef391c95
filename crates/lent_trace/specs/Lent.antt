-- Rules 7.10, 10.15, 10.16, 17.7 and 17.8 by a lent record, of either version since a drawing only reads it: 16, 17 and 18 stand in the place of 4.
use Rattle.std.specs.Prelude.{ℕ, List}
use Rattle.reply.specs.declared.Reply.{Reply}
use Rattle.surface.specs.declared.lines.LineNumber.{LineNumber}
use Rattle.record_layout.specs.Record.{read_record}
use Rattle.trace.specs.declared.alone.Traced.{Traced}
use Rattle.trace.specs.Lines.{traced_answer, traced_dots}
use Rattle.trace_replies.specs.Replies.{whole_reply}
use Rattle.trace.specs.Carried.{carried_dots, carried_replies, carried_places}

-- one line of the state in the record: its reply and its place, and the lent line afterwards
abbrev pub lent_traced : LineNumber → List ℕ → List ℕ → List ℕ → List ℕ → List ℕ → Traced
lent_traced line ula tile dots b t = traced_answer (read_record b).reply line ula tile dots (read_record b).state t

abbrev pub lent_traced_dots : LineNumber → List ℕ → List ℕ → List ℕ → List ℕ → List ℕ → List ℕ
lent_traced_dots line ula tile dots b t = traced_dots (read_record b).reply line ula tile dots (read_record b).state t

-- lines 0 to 255: what refuses the whole call, the dots, the replies and the places
abbrev pub lent_whole : ℕ → ℕ → ℕ → ℕ → ℕ → List ℕ → List ℕ → Reply
lent_whole ula tile dots replies places b t = whole_reply ula tile dots replies places (read_record b).reply t

abbrev pub lent_carried_dots : List ℕ → List ℕ → List ℕ → List ℕ → List ℕ → List ℕ
lent_carried_dots b t ula tile dots = carried_dots (read_record b).state t ula tile dots

abbrev pub lent_replies : List ℕ → List ℕ → List ℕ
lent_replies b t = carried_replies (read_record b).state t

abbrev pub lent_places : List ℕ → List ℕ → List ℕ
lent_places b t = carried_places (read_record b).state t
