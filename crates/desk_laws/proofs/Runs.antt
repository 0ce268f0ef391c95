-- Runs, by induction: each call is the member's own, or another's, which leaves the member what it has.
use Prim.Native.Nat.{ℕ}
use mathlib.Core.Path.{◌≡◌, refl, sym, ap, ◌∙◌, subst}
use mathlib.Core.Bool.{Bool, true, false, cond}
use mathlib.Core.List.{List, [], ◌∷◌}
use lib.Dec.{eqb}
use borrow.Author.Tests.{eq-eqb, ne_eqb, eqb-true, eqb-false}
use Rattle.desk.specs.Own.{Call, Own, own_call}
use Rattle.desk.specs.Desk.{own_of, desk_call}
use Rattle.desk_laws.specs.Runs.{MemberCall, RoomCall, desk_after, answers_to, calls_of, with_room, calls_with_room, own_after, own_answers, NeverAsksRoom, CallTyped, RunTyped}
use Rattle.desk_laws.proofs.Formed.{Formed}
use Rattle.desk_laws.proofs.Step.{call-answer, call_settled}

pub formed-after : (d : List ℕ) (ts : List MemberCall) → Formed d → RunTyped ts → Formed (desk_after d ts)
unfolding desk_after RunTyped
formed-after d [] f b = f
formed-after d (t ∷ ts) f b = formed-after (desk_call d t.member t.call).desk ts (call_settled d f t.member t.call b.0).formed b.1

-- ---- a property of every run, from its first call

-- what holds of the empty run, and goes over a call of m's own and over one of another's, holds of every run
module _ (P : List ℕ → ℕ → List MemberCall → Type 0)
    (none : (d : List ℕ) (m : ℕ) → P d m [])
    (mine : (d : List ℕ) (f : Formed d) (t : MemberCall) → CallTyped t.member t.call → (ts : List MemberCall)
    → P (desk_call d t.member t.call).desk t.member ts → P d t.member (t ∷ ts))
    (theirs : (d : List ℕ) (f : Formed d) (t : MemberCall) → CallTyped t.member t.call → (ts : List MemberCall) (m : ℕ) → (t.member ≡ m → ⊥)
    → P (desk_call d t.member t.call).desk m ts → P d m (t ∷ ts)) where
  every-run : (d : List ℕ) (m : ℕ) (ts : List MemberCall) → Formed d → RunTyped ts → P d m ts
  unfolding RunTyped
  every-run d m [] f b = none d m
  every-run d m (t ∷ ts) f b =
      go (every-run (desk_call d t.member t.call).desk m ts (call_settled d f t.member t.call b.0).formed b.1) (eqb t.member m) refl
    where
      go : P (desk_call d t.member t.call).desk m ts → (x : Bool) → eqb t.member m ≡ x → P d m (t ∷ ts)
      go h true e =
          let q = eqb-true t.member m e in
          subst (λ (k : ℕ). P d k (t ∷ ts)) q (mine d f t b.0 ts (subst (λ (k : ℕ). P (desk_call d t.member t.call).desk k ts) (sym q) h))
      go h false e = theirs d f t b.0 ts m (eqb-false t.member m e) h

-- ---- what a run is to member m, by its own calls alone

abbrev pub Alone : List ℕ → ℕ → List MemberCall → Type 0
Alone d m ts =
    (answers_to m d ts ≡ own_answers (own_of d m) (calls_with_room m d ts)) × (own_of (desk_after d ts) m ≡ own_after (own_of d m) (calls_with_room m d ts))

module _ (d : List ℕ) (f : Formed d) (t : MemberCall) (l : CallTyped t.member t.call) (ts : List MemberCall) where
  abbrev next : List ℕ
  next = (desk_call d t.member t.call).desk

  own-next : own_of next t.member ≡ (own_call (with_room d t.member t.call).room (own_of d t.member) t.call).own
  own-next = (call_settled d f t.member t.call l).own

  other-next : (m : ℕ) → (t.member ≡ m → ⊥) → own_of next m ≡ own_of d m
  other-next m ne = (call_settled d f t.member t.call l).others m ne

  alone-mine : Alone next t.member ts → Alone d t.member (t ∷ ts)
  unfolding answers_to calls_with_room own_answers own_after desk_after
  alone-mine (a, o) =
      rw (eq-eqb t.member t.member refl, call-answer d f t.member t.call, a, o, own-next) (refl, refl)

  alone-theirs : (m : ℕ) → (t.member ≡ m → ⊥) → Alone next m ts → Alone d m (t ∷ ts)
  unfolding answers_to calls_with_room desk_after
  alone-theirs m ne (a, o) = rw (ne_eqb t.member m ne, a, o, other-next m ne) (refl, refl)

alone-none : (d : List ℕ) (m : ℕ) → Alone d m []
unfolding answers_to calls_with_room own_answers own_after desk_after
alone-none d m = (refl, refl)

pub runs-alone : (d : List ℕ) (m : ℕ) (ts : List MemberCall) → Formed d → RunTyped ts → Alone d m ts
runs-alone = every-run Alone alone-none alone-mine alone-theirs

-- ---- a member that never asks for room

-- a call that asks for none
abbrev roomless : Call → RoomCall
roomless c = record { call = c; room = false }

abbrev pub roomless_calls : List Call → List RoomCall
roomless_calls [] = []
roomless_calls (c ∷ cs) = roomless c ∷ roomless_calls cs

abbrev Roomless : List ℕ → ℕ → List MemberCall → Type 0
Roomless d m ts = NeverAsksRoom (own_of d m) (calls_of m ts) → calls_with_room m d ts ≡ roomless_calls (calls_of m ts)

module _ (d : List ℕ) (f : Formed d) (t : MemberCall) (l : CallTyped t.member t.call) (ts : List MemberCall) where
  roomless-mine : Roomless (next d f t l ts) t.member ts → Roomless d t.member (t ∷ ts)
  unfolding calls_of calls_with_room NeverAsksRoom
  roomless-mine h z =
      let m = t.member in
      let e : eqb m m ≡ true = eq-eqb m m refl in
      let y : NeverAsksRoom (own_of d m) (t.call ∷ calls_of m ts) =
      subst (λ (b : Bool). NeverAsksRoom (own_of d m) (cond b (t.call ∷ calls_of m ts) (calls_of m ts))) e z in
      let q : with_room d m t.call ≡ roomless t.call = rw y.0 in
      let w : own_of (next d f t l ts) m ≡ (own_call false (own_of d m) t.call).own =
      own-next d f t l ts ∙ ap (λ (r : RoomCall). (own_call r.room (own_of d m) t.call).own) q in
      rw (e, q, h (subst (λ (o : Own). NeverAsksRoom o (calls_of m ts)) (sym w) y.1))

  roomless-theirs : (m : ℕ) → (t.member ≡ m → ⊥) → Roomless (next d f t l ts) m ts → Roomless d m (t ∷ ts)
  unfolding calls_of calls_with_room
  roomless-theirs m ne h z =
      let e : eqb t.member m ≡ false = ne_eqb t.member m ne in
      let y : NeverAsksRoom (own_of d m) (calls_of m ts) =
      subst (λ (b : Bool). NeverAsksRoom (own_of d m) (cond b (t.call ∷ calls_of m ts) (calls_of m ts))) e z in
      rw e (h (subst (λ (o : Own). NeverAsksRoom o (calls_of m ts)) (sym (other-next d f t l ts m ne)) y))

roomless-none : (d : List ℕ) (m : ℕ) → Roomless d m []
unfolding calls_of calls_with_room
roomless-none d m z = refl

pub calls-roomless : (d : List ℕ) (m : ℕ) (ts : List MemberCall) → Formed d → RunTyped ts → Roomless d m ts
calls-roomless = every-run Roomless roomless-none roomless-mine roomless-theirs
