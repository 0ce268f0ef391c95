-- Rule 16.9: runs, the calls of many members on one desk one after the other without start, and what a run is to one member alone.
use Rattle.std.specs.Prelude.{ℕ, ◌<◌, ◌≡◌, List, [], ◌∷◌, Bool, false, cond, eqb}
use Rattle.lent.specs.Calls.{ByteWritten}
use Rattle.desk_places.specs.Desks.{has_room}
use Rattle.desk.specs.Own.{Call, opening, closing, changing, asking, drawing, Outcome, Own, away, here, is_opening, own_call}
use Rattle.desk.specs.Desk.{own_of, desk_call}

-- a call, and the number that makes it
pub record MemberCall : Type 0 where
  pub member : ℕ
  pub call : Call

-- the desk after a run
unfoldable pub desk_after : List ℕ → List MemberCall → List ℕ
desk_after d [] = d
desk_after d (t ∷ ts) = desk_after (desk_call d t.member t.call).desk ts

-- x before xs where the call is m's, else xs alone
abbrev pub if_own : {A : Type 0} → ℕ → MemberCall → A → List A → List A
if_own m t x xs = cond (eqb t.member m) (x ∷ xs) xs

-- the answers to number m in a run, in their order
unfoldable pub answers_to : ℕ → List ℕ → List MemberCall → List Outcome
answers_to m d [] = []
answers_to m d (t ∷ ts) = if_own m t (desk_call d t.member t.call).outcome (answers_to m (desk_call d t.member t.call).desk ts)

-- the calls of number m in a run
unfoldable pub calls_of : ℕ → List MemberCall → List Call
calls_of m [] = []
calls_of m (t ∷ ts) = if_own m t t.call (calls_of m ts)

-- an opening by a member without a seat: the one call that asks for room
abbrev pub asks_room : Own → Call → Bool
asks_room away c = is_opening c
asks_room (here b) c = false

-- a call, and, where it asks for room, whether there is some
pub record RoomCall : Type 0 where
  pub call : Call
  pub room : Bool

abbrev pub with_room : List ℕ → ℕ → Call → RoomCall
with_room d m c = record { call = c; room = cond (asks_room (own_of d m) c) (has_room d) false }

-- the calls of number m in a run, so
unfoldable pub calls_with_room : ℕ → List ℕ → List MemberCall → List RoomCall
calls_with_room m d [] = []
calls_with_room m d (t ∷ ts) = if_own m t (with_room d m t.call) (calls_with_room m (desk_call d t.member t.call).desk ts)

-- ---- a member alone

-- what a member that has o has after its calls
unfoldable pub own_after : Own → List RoomCall → Own
own_after o [] = o
own_after o (q ∷ qs) = own_after (own_call q.room o q.call).own qs

-- and the answers to them
unfoldable pub own_answers : Own → List RoomCall → List Outcome
own_answers o [] = []
own_answers o (q ∷ qs) = (own_call q.room o q.call).outcome ∷ own_answers (own_call q.room o q.call).own qs

-- a member that has o never asks for room: it opens nothing while it has no seat
unfoldable pub NeverAsksRoom : Own → List Call → Type 0
NeverAsksRoom o [] = Unit
NeverAsksRoom o (c ∷ cs) = (asks_room o c ≡ false) × NeverAsksRoom (own_call false o c).own cs

-- ---- what the types of the calls' arguments give

-- a written value is a byte
abbrev pub ByteCall : Call → Type 0
ByteCall opening = Unit
ByteCall closing = Unit
ByteCall (changing c) = ByteWritten c
ByteCall (asking q) = Unit
ByteCall (drawing line ula tile dots) = Unit

-- and a number has 16 bits
pub record CallTyped (m : ℕ) (c : Call) : Type 0 where
  pub member : m < 65536
  pub byte : ByteCall c

unfoldable pub RunTyped : List MemberCall → Type 0
RunTyped [] = Unit
RunTyped (t ∷ ts) = CallTyped t.member t.call × RunTyped ts
