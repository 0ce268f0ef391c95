-- Rules 16.6 to 16.11: what holds of the calls on a desk together. `Bytes`, `Typed`, `CallTyped` and `RunTyped` are what the types of
-- the arguments give.
use Rattle.std.specs.Prelude.{ℕ, ◌+◌, ◌*◌, ◌≤◌, ◌<◌, ◌≡◌, List, [], ◌∷◌, true, false, cond, length, ltb}
use Rattle.lists.specs.Bytes.{Bytes}
use Rattle.reply.specs.declared.Reply.TheVariants.{Done, AlreadyOpen, DeskFull}
use Rattle.state.specs.declared.State.{State}
use Rattle.state.specs.Lawful.{lawful_state}
use Rattle.state.specs.Typed.{Typed}
use Rattle.surface.specs.declared.lines.LineNumber.{LineNumber}
use Rattle.reply.specs.Answered.{reply_of, value_of}
use Rattle.register_laws.specs.Claims.{with_colour}
use Rattle.record_layout.specs.Record.{record_of}
use Rattle.line_replies.specs.Replies.{draw_reply, drawn_if}
use Rattle.line.specs.Lines.{drawn_line}
use Rattle.lent.specs.declared.changes.Change.{Change}
use Rattle.lent.specs.declared.changes.Change.TheVariants.{Register}
use Rattle.lent.specs.declared.queries.Query.{Query}
use Rattle.lent.specs.Calls.{changed, asked}
use Rattle.desk_seats.specs.Seats.{seats, seat_at, sits}
use Rattle.desk_places.specs.Desks.{well_formed, is_seated, held_seats, start_reply, started}
use Rattle.desk.specs.Own.{Call, opening, changing, asking, drawing, here, replied, own_call}
use Rattle.desk.specs.Desk.{own_of, desk_call}
use Rattle.desk_laws.specs.Runs.{MemberCall, desk_after, answers_to, calls_of, with_room, calls_with_room, own_after, own_answers, NeverAsksRoom, CallTyped, RunTyped}

-- bytes that 21 does not refuse
pub record IsDesk (d : List ℕ) : Type 0 where
  pub bytes : Bytes d
  pub formed : well_formed d ≡ true

-- number m has a seat with the record of the lawful state s
pub record HasState (d : List ℕ) (m : ℕ) (s : State) : Type 0 where
  pub typed : Typed s
  pub lawful : lawful_state s ≡ true
  pub own : own_of d m ≡ here (record_of s)

-- ---- what is kept

-- a desk stays one under every call, refused or not, and so through every run
abbrev pub StaysDesk : Type 0
StaysDesk = (d : List ℕ) (ts : List MemberCall) → IsDesk d → RunTyped ts → IsDesk (desk_after d ts)

-- a started buffer is a desk on which nobody has a seat
abbrev pub StartedEmpty : Type 0
StartedEmpty = (d : List ℕ) (m : ℕ) → start_reply d ≡ Done → IsDesk (started d) × (is_seated (started d) m ≡ false)

-- a refused call leaves every byte, whatever the bytes are
abbrev pub RefusedUntouched : Type 0
RefusedUntouched = (d : List ℕ) (m : ℕ) (c : Call) → ((desk_call d m c).outcome.reply ≡ Done → ⊥) → (desk_call d m c).desk ≡ d

-- and so do a question and a drawing, which are lent the desk to look at
pub record LooksUntouched : Type 0 where
  pub questions : (d : List ℕ) (m : ℕ) (q : Query) → (desk_call d m (asking q)).desk ≡ d
  pub drawings : (d : List ℕ) (m : ℕ) (line : LineNumber) (ula tile dots : List ℕ) → (desk_call d m (drawing line ula tile dots)).desk ≡ d

-- a call of number n changes no byte of the seat of another number m, nor where it sits, nor what it has
abbrev pub OthersKept : Type 0
OthersKept =
    (d : List ℕ) (n m : ℕ) (c : Call) → IsDesk d → CallTyped n c → (n ≡ m → ⊥)
    → ((i : ℕ) → i < seats → sits m (seat_at d i) ≡ true → seat_at (desk_call d n c).desk i ≡ seat_at d i)
    × (is_seated (desk_call d n c).desk m ≡ is_seated d m)
    × (own_of (desk_call d n c).desk m ≡ own_of d m)

-- ---- the calls are those on the state

-- who has a seat has a lawful state in it
abbrev pub SeatedHasState : Type 0
SeatedHasState = (d : List ℕ) (m : ℕ) → IsDesk d → is_seated d m ≡ true → (s : State) × HasState d m s

-- and a call answers and does what the call on that state does; 4, 16, 17 and 18 do not come
pub record BaseCalls : Type 0 where
  pub changes : (d : List ℕ) (m : ℕ) (s : State) (c : Change) → IsDesk d → HasState d m s → CallTyped m (changing c)
      → ((desk_call d m (changing c)).outcome.reply ≡ (changed c s).reply)
      × HasState (desk_call d m (changing c)).desk m (changed c s).state
  pub questions : (d : List ℕ) (m : ℕ) (s : State) (q : Query) → IsDesk d → HasState d m s
      → ((desk_call d m (asking q)).outcome.reply ≡ reply_of (asked q s)) × ((desk_call d m (asking q)).outcome.value ≡ value_of (asked q s))
  pub drawings : (d : List ℕ) (m : ℕ) (s : State) (line : LineNumber) (ula tile dots : List ℕ) → IsDesk d → HasState d m s
      → let r = draw_reply line (length ula) (length tile) (length dots) s in
      ((desk_call d m (drawing line ula tile dots)).outcome.reply ≡ r)
      × ((desk_call d m (drawing line ula tile dots)).outcome.dots ≡ drawn_if r (drawn_line s ula tile line) dots)

-- ---- members are apart

-- no answer tells a place: a call's answer, and what the member has afterwards, are a function of what the member has and the call alone;
-- where a member without a seat opens one, also of whether there is room
abbrev pub OwnAlone : Type 0
OwnAlone =
    (d : List ℕ) (m : ℕ) (c : Call) → IsDesk d → CallTyped m c
    → ((desk_call d m c).outcome ≡ (own_call (with_room d m c).room (own_of d m) c).outcome)
    × (own_of (desk_call d m c).desk m ≡ (own_call (with_room d m c).room (own_of d m) c).own)

-- an opening's answer is a function of whether the member has a seat and of how many are held
abbrev pub OpeningAnswer : Type 0
OpeningAnswer =
    (d : List ℕ) (m : ℕ) → IsDesk d
    → (desk_call d m opening).outcome
    ≡ cond (is_seated d m) (replied AlreadyOpen opening) (cond (ltb (held_seats d) seats) (replied Done opening) (replied DeskFull opening))

-- two desks with the same seats in another order
pub record SameSeats (d e : List ℕ) : Type 0 where
  pub to : (i : ℕ) → i < seats → (j : ℕ) × (j < seats) × (seat_at e j ≡ seat_at d i)
  pub from : (j : ℕ) → j < seats → (i : ℕ) × (i < seats) × (seat_at d i ≡ seat_at e j)

-- answer alike
abbrev pub PlaceUntold : Type 0
PlaceUntold =
    (d e : List ℕ) (m : ℕ) (c : Call) → IsDesk d → IsDesk e → SameSeats d e → (desk_call d m c).outcome ≡ (desk_call e m c).outcome

-- a run answers a member, and leaves it with, what its own calls alone would: of the others only the room where it asks for some
abbrev pub RunsAlone : Type 0
RunsAlone =
    (d : List ℕ) (m : ℕ) (ts : List MemberCall) → IsDesk d → RunTyped ts
    → (answers_to m d ts ≡ own_answers (own_of d m) (calls_with_room m d ts))
    × (own_of (desk_after d ts) m ≡ own_after (own_of d m) (calls_with_room m d ts))

-- isolation: on two desks where a member has the same, two runs with the same calls of the member, and the same room where it asks for
-- some, answer it alike and leave it with the same, whatever calls others make between, refused ones among them
abbrev pub Isolated : Type 0
Isolated =
    (d e : List ℕ) (m : ℕ) (ts us : List MemberCall) → IsDesk d → IsDesk e → RunTyped ts → RunTyped us
    → own_of d m ≡ own_of e m → calls_with_room m d ts ≡ calls_with_room m e us
    → (answers_to m d ts ≡ answers_to m e us) × (own_of (desk_after d ts) m ≡ own_of (desk_after e us) m)

-- and the same calls are enough for a member that never asks for room: one that has a seat, until it closes, and after that as long as it
-- does not open again
abbrev pub IsolatedSeated : Type 0
IsolatedSeated =
    (d e : List ℕ) (m : ℕ) (ts us : List MemberCall) → IsDesk d → IsDesk e → RunTyped ts → RunTyped us
    → own_of d m ≡ own_of e m → calls_of m ts ≡ calls_of m us → NeverAsksRoom (own_of d m) (calls_of m ts)
    → (answers_to m d ts ≡ answers_to m e us) × (own_of (desk_after d ts) m ≡ own_of (desk_after e us) m)

-- ---- two members, one nickname, one half-sent colour

-- each sends the first byte of a colour by $44, and then each the second
abbrev pub two_colours : ℕ → ℕ → ℕ → ℕ → ℕ → ℕ → List MemberCall
two_colours m n x y p q =
    record { member = m; call = changing (Register 0x44 x) }
    ∷ record { member = n; call = changing (Register 0x44 y) }
    ∷ record { member = m; call = changing (Register 0x44 p) }
    ∷ record { member = n; call = changing (Register 0x44 q) }
    ∷ []

-- and each has its own colour in its own palette, as if it were alone
abbrev pub OwnColours : Type 0
OwnColours =
    (d : List ℕ) (m n : ℕ) (s t : State) (x y p q : ℕ) → IsDesk d → m < 65536 → n < 65536 → (m ≡ n → ⊥) → x < 256 → y < 256 → p ≤ 1 → q ≤ 1
    → HasState d m s → HasState d n t → s.palette.held ≡ false → t.palette.held ≡ false
    → HasState (desk_after d (two_colours m n x y p q)) m (with_colour s (x * 2 + p))
    × HasState (desk_after d (two_colours m n x y p q)) n (with_colour t (y * 2 + q))
