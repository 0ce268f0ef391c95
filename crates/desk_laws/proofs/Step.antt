-- One call: its answer and what the member has afterwards, by what it had and, where it asks for room, whether there is some; and the desk
-- settled so.
use Prim.Native.Nat.{ℕ}
use mathlib.Core.Path.{◌≡◌, refl, sym, ap, ◌∙◌, subst}
use mathlib.Core.Bool.{Bool, true, false, cond}
use mathlib.Core.List.{List}
use Rattle.desk_seats.specs.Seats.{seat_at}
use Rattle.desk_places.specs.Desks.{has_room}
use Rattle.desk_seats.proofs.Tests.{sits-held}
use Rattle.desk.specs.Own.{Call, Own, away, here, OwnResult, is_opening, opened, not_open, own_call}
use Rattle.desk.specs.Desk.{DeskResult, own_of, settled, settled_by, desk_call}
use Rattle.desk.proofs.Exits.{own-seat, on-own}
use Rattle.desk_laws.specs.Runs.{asks_room, with_room, CallTyped}
use Rattle.desk_laws.proofs.Records.{OwnRecord, own-kept}
use Rattle.desk_laws.proofs.Formed.{Formed, Where, at, nowhere, where-is, own-nowhere, formed-well}
use Rattle.desk_laws.proofs.Change.{Settled}
use Rattle.desk_laws.proofs.Settle.{settles}

-- room counts only where it is asked for
room-asked : (room : Bool) (o : Own) (c : Call) → own_call room o c ≡ own_call (cond (asks_room o c) room false) o c
room-asked room (here b) c = refl
room-asked room away c = go (is_opening c)
  where
    go : (b : Bool) → cond b (opened room) (not_open c) ≡ cond b (opened (cond b room false)) (not_open c)
    go true = refl
    go false = refl

abbrev IsHere : Own → Type 0
IsHere away = ⊥
IsHere (here b) = Unit

-- a member without a seat has one afterwards only where there is room
away-room : (room : Bool) (o : Own) (c : Call) (b : List ℕ) → (own_call room o c).own ≡ here b → o ≡ away → room ≡ true
away-room room o c b e w = go (is_opening c) room (subst IsHere (sym (ap (λ (x : Own). (own_call room x c).own) (sym w) ∙ e)) tt)
  where
    go : (x r : Bool) → IsHere (cond x (opened r) (not_open c)).own → r ≡ true
    go x true h = refl
    go true false h = absurd h
    go false false h = absurd h

module _ (d : List ℕ) (f : Formed d) (n : ℕ) where
  pub own-is-record : OwnRecord (own_of d n)
  own-is-record = go (where-is d n)
    where
      go : Where d n → OwnRecord (own_of d n)
      go (at i l h q) = subst OwnRecord (sym (own-seat d n i l (sym q))) ((f.good i l).held (sits-held n (seat_at d i) h))
      go (nowhere z) = subst OwnRecord (sym (own-nowhere d n z)) tt

  module _ (c : Call) where
    pub call-own : desk_call d n c ≡ settled_by d n (own_call (has_room d) (own_of d n) c)
    call-own = on-own d (formed-well d f) n c

    pub call-answer : (desk_call d n c).outcome ≡ (own_call (with_room d n c).room (own_of d n) c).outcome
    call-answer = ap (λ (a : DeskResult). a.outcome) call-own ∙ ap (λ (o : OwnResult). o.outcome) (room-asked (has_room d) (own_of d n) c)

    pub call_settled : CallTyped n c → Settled d n (own_call (with_room d n c).room (own_of d n) c).own (desk_call d n c).desk
    call_settled t =
        let o = own_call (has_room d) (own_of d n) c in
        let s = settles d n t.member f o.own (own-kept (has_room d) (own_of d n) own-is-record c t.byte) (away-room (has_room d) (own_of d n) c) in
        subst (λ (e : List ℕ). Settled d n (own_call (with_room d n c).room (own_of d n) c).own e) (sym (ap (λ (a : DeskResult). a.desk) call-own))
        (subst (λ (x : Own). Settled d n x (settled d n o.own)) (ap (λ (x : OwnResult). x.own) (room-asked (has_room d) (own_of d n) c)) s)
