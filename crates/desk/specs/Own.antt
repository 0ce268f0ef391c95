-- Rules 9.22 to 9.24, 10.14, 16.4 to 16.6 and 16.10: a member's call by what the member has of a desk alone. No desk and no place is among
-- the arguments, so that no answer can tell one.
use Rattle.std.specs.Prelude.{ℕ, List, [], Bool, true, false, cond, length}
use Rattle.reply.specs.declared.Reply.{Reply}
use Rattle.reply.specs.declared.Reply.TheVariants.{Done, AlreadyOpen, NotOpen, DeskFull}
use Rattle.state.specs.Reset.{reset_state}
use Rattle.surface.specs.declared.lines.LineNumber.{LineNumber}
use Rattle.reply.specs.Answered.{reply_of, value_of}
use Rattle.record_layout.specs.Record.{record_of}
use Rattle.lent_drawing.specs.Drawn.{lent_draw_reply, lent_drawn}
use Rattle.lent.specs.declared.changes.Change.{Change}
use Rattle.lent.specs.declared.queries.Query.{Query}
use Rattle.lent.specs.Calls.{changed, asked}
use Rattle.lent.specs.Lent.{lent_answer, lent_after, lent_reading}

-- a call: for a seat, to give it up, a change of the state, a question to it, and a line with the two lent banks and the lent line
pub data Call : Type 0 where
  opening closing : Call
  changing : Change → Call
  asking : Query → Call
  drawing : LineNumber → List ℕ → List ℕ → List ℕ → Call

-- what a call answers: the reply, the value read, and the lent line afterwards
pub record Outcome : Type 0 where
  pub reply : Reply
  pub value : ℕ
  pub dots : List ℕ

-- what a member has of a desk: no seat, or a seat with its record
pub data Own : Type 0 where
  away : Own
  here : List ℕ → Own

-- an answer, and what the member has afterwards
pub record OwnResult : Type 0 where
  pub outcome : Outcome
  pub own : Own

-- the lent line of a call
abbrev pub line_of : Call → List ℕ
line_of opening = []
line_of closing = []
line_of (changing c) = []
line_of (asking q) = []
line_of (drawing line ula tile dots) = dots

-- the call is for a seat
abbrev pub is_opening : Call → Bool
is_opening opening = true
is_opening closing = false
is_opening (changing c) = false
is_opening (asking q) = false
is_opening (drawing line ula tile dots) = false

-- a reply, no value, and the lent line as it was
abbrev pub replied : Reply → Call → Outcome
replied r c = record { reply = r; value = 0; dots = line_of c }

-- a member with the record b: 22; its seat given up; what the call on a lent record answers and does
abbrev pub seated_call : List ℕ → Call → OwnResult
seated_call b opening = record { outcome = replied AlreadyOpen opening; own = here b }
seated_call b closing = record { outcome = replied Done closing; own = away }
seated_call b (changing c) =
    let a = lent_answer (changed c) b in record { outcome = replied a.reply (changing c); own = here (lent_after b a) }
seated_call b (asking q) =
    let r = lent_reading (asked q) b in record { outcome = record { reply = reply_of r; value = value_of r; dots = [] }; own = here b }
seated_call b (drawing line ula tile dots) =
    record {
      outcome = record {
        reply = lent_draw_reply line (length ula) (length tile) (length dots) b;
        value = 0;
        dots = lent_drawn line ula tile dots b;
      };
      own = here b;
    }

-- a seat with the reset state, or 24 where there is no room
abbrev pub opened : Bool → OwnResult
opened room =
    cond room (record { outcome = replied Done opening; own = here (record_of reset_state) }) (record { outcome = replied DeskFull opening; own = away })

-- 23
abbrev pub not_open : Call → OwnResult
not_open c = record { outcome = replied NotOpen c; own = away }

-- a member without a seat: it opens one; 23 to every other call
abbrev pub away_call : Bool → Call → OwnResult
away_call room c = cond (is_opening c) (opened room) (not_open c)

-- a member's call, by what it has and, where it has no seat, whether there is room
abbrev pub own_call : Bool → Own → Call → OwnResult
own_call room away c = away_call room c
own_call room (here b) c = seated_call b c
