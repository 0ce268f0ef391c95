-- The claims on a desk. A desk of bytes is `Formed`; a call settles it (Step) and a run goes call by call (Runs). What a seated member's call
-- does with its state is what the call on the record of a lawful state does (Records).
use Prim.Native.Nat.{ℕ, ◌+◌, ◌*◌, ◌-◌, ◌<◌}
use mathlib.Core.Path.{◌≡◌, refl, sym, ap, ◌∙◌, subst}
use mathlib.Core.Bool.{Bool, true, false, cond, not}
use mathlib.Core.List.{List, ◌++◌}
use native.Mathlib.Omega.{arith}
use lib.ListN.{length, take, drop, length-replicate, replicate-append-replicate}
use lib.Seq.{take_at, drop_at}
use lib.Dec.{eqb, ltb}
use borrow.Author.Tests.{le-ltb}
use Rattle.lists.specs.Search.{some}
use Rattle.lists.proofs.Counts.{count-some}
use Rattle.lists.proofs.Bytes.{bytes-zeros}
use Rattle.lists.proofs.Search.{not-both, some_at, some_of}
use Rattle.lists.proofs.Cond.{if-true}
use Rattle.reply.specs.declared.Reply.TheVariants.{Done, BufferLength, AlreadyOpen, DeskFull}
use Rattle.reply.proofs.Done.{is-refused, test-met}
use Rattle.state.specs.declared.State.{State}
use Rattle.state.specs.declared.Answer.{Answer}
use Rattle.surface.specs.declared.lines.LineNumber.{LineNumber}
use Rattle.reply.specs.Answered.{reply_of, value_of}
use Rattle.register_laws.specs.Claims.{NineTwice}
use Rattle.register_laws.proofs.Claims.{nine_twice}
use Rattle.record_layout.specs.Record.{record_of}
use Rattle.lent.specs.declared.changes.Change.{Change}
use Rattle.lent.specs.declared.changes.Change.TheVariants.{Register}
use Rattle.lent.specs.declared.queries.Query.{Query}
use Rattle.lent.specs.Calls.{changed, asked}
use Rattle.lent.specs.Lent.{lent_answer}
use Rattle.lent.proofs.Exits.{left}
use Rattle.lent_laws.proofs.Claims.{change-keeps}
use Rattle.desk_seats.specs.Seats.{seats, seat_length, desk_length, zeros, seat_at, is_held, sits}
use Rattle.desk_places.specs.Desks.{well_formed, place_of, is_seated, held_seats, has_room, started}
use Rattle.desk.specs.Own.{Call, opening, closing, changing, asking, drawing, Own, away, here, replied, is_opening, opened, not_open, seated_call, own_call}
use Rattle.desk.specs.Desk.{DeskResult, own_of, settled, settled_by, desk_call}
use Rattle.desk.proofs.Exits.{exit-bad, on-own, by-own, settled-own}
use Rattle.desk_laws.specs.Runs.{desk_after, calls_of, with_room, calls_with_room, own_answers, own_after, NeverAsksRoom, CallTyped}
use Rattle.desk_laws.specs.Claims.{IsDesk, HasState, StaysDesk, StartedEmpty, RefusedUntouched, LooksUntouched, OthersKept, SeatedHasState, BaseCalls, OwnAlone, OpeningAnswer, SameSeats, PlaceUntold, RunsAlone, Isolated, IsolatedSeated, OwnColours}
use Rattle.desk_laws.proofs.Records.{OwnRecord, answer-is, reading-is, reply-is, dots-are, after_is}
use Rattle.desk_laws.proofs.Formed.{GoodSeat, Formed, Where, at, nowhere, where-is, unplaced, own-nowhere, own_at, formed, is-desk}
use Rattle.desk_laws.proofs.Settle.{sits-free, zeros-free, zeros-good}
use Rattle.desk_laws.proofs.Step.{call-own, call-answer, call_settled, own-is-record}
use Rattle.desk_laws.proofs.Runs.{formed-after, runs-alone, roomless_calls, calls-roomless}

pub stays_desk : StaysDesk
stays_desk d ts k b = is-desk (desk_after d ts) (formed-after d ts (formed d k) b)

pub others_kept : OthersKept
others_kept d n m c k t ne =
    let s = call_settled d (formed d k) n c t in (s.seat m ne, ap (λ (p : ℕ). ltb p seats) (s.place m ne), s.others m ne)

pub own_alone : OwnAlone
own_alone d m c k t = (call-answer d (formed d k) m c, (call_settled d (formed d k) m c t).own)

pub runs_alone : RunsAlone
runs_alone d m ts k b = runs-alone d m ts (formed d k) b

pub isolated : Isolated
isolated d e m ts us k j b c o q =
    let x = runs_alone d m ts k b in
    let y = runs_alone e m us j c in
    let z : own_answers (own_of d m) (calls_with_room m d ts) ≡ own_answers (own_of e m) (calls_with_room m e us) = rw (o, q) in
    let w : own_after (own_of d m) (calls_with_room m d ts) ≡ own_after (own_of e m) (calls_with_room m e us) = rw (o, q) in
    (x.0 ∙ z ∙ sym y.0, x.1 ∙ w ∙ sym y.1)

pub isolated_seated : IsolatedSeated
isolated_seated d e m ts us k j b c o q z =
    isolated d e m ts us k j b c o
    (calls-roomless d m ts (formed d k) b z ∙ ap roomless_calls q
    ∙ sym (calls-roomless e m us (formed e j) c (subst (λ (x : Own). NeverAsksRoom x (calls_of m us)) o (subst (NeverAsksRoom (own_of d m)) q z))))

-- ---- an opening

pub opening_answer : OpeningAnswer
unfolding own_of
opening_answer d m k = ap (λ (a : DeskResult). a.outcome) (on-own d k.formed m opening) ∙ go (is_seated d m) (has_room d)
  where
    go : (s r : Bool) → (own_call r (cond s (here (drop 3 (seat_at d (place_of d m)))) away) opening).outcome
        ≡ cond s (replied AlreadyOpen opening) (cond r (replied Done opening) (replied DeskFull opening))
    go true r = refl
    go false true = refl
    go false false = refl

-- ---- the order of the seats

own-alike : (d e : List ℕ) → Formed d → Formed e → SameSeats d e → (m : ℕ) → own_of d m ≡ own_of e m
own-alike d e f g o m = go (where-is d m)
  where
    go : Where d m → own_of d m ≡ own_of e m
    go (at i l h q) =
        let w = o.to i l in
        own_at d m f i l h ∙ ap (λ (s : List ℕ). here (drop 3 s)) (sym w.2) ∙ sym (own_at e m g w.0 w.1 (ap (sits m) w.2 ∙ h))
    go (nowhere z) =
        own-nowhere d m z ∙ sym (own-nowhere e m (λ j l. let w = o.from j l in ap (sits m) (sym w.2) ∙ z w.0 w.1))

abbrev some_free : List ℕ → Bool
some_free d = some (λ i. not (is_held (seat_at d i))) seats

free-there : (d e : List ℕ) → ((i : ℕ) → i < seats → (j : ℕ) × (j < seats) × (seat_at e j ≡ seat_at d i)) → some_free d ≡ true → some_free e ≡ true
free-there d e o h =
    let w = some_at (λ i. not (is_held (seat_at d i))) seats h in
    let v = o w.0 w.1 in
    some_of (λ i. not (is_held (seat_at e i))) seats v.0 v.1 (ap (λ (s : List ℕ). not (is_held s)) v.2 ∙ w.2)

room-alike : (d e : List ℕ) → SameSeats d e → has_room d ≡ has_room e
unfolding held_seats
room-alike d e o =
    count-some (λ i. is_held (seat_at d i)) seats ∙ go (some_free d) refl (some_free e) refl ∙ sym (count-some (λ i. is_held (seat_at e i)) seats)
  where
    go : (a : Bool) → some_free d ≡ a → (b : Bool) → some_free e ≡ b → a ≡ b
    go true x true y = refl
    go true x false y = absurd (not-both (free-there d e o.to x) y)
    go false x true y = absurd (not-both (free-there e d o.from y) x)
    go false x false y = refl

pub place_untold : PlaceUntold
place_untold d e m c k j o =
    let f = formed d k in
    let g = formed e j in
    ap (λ (a : DeskResult). a.outcome) (call-own d f m c)
    ∙ ap (λ (r : Bool). (own_call r (own_of d m) c).outcome) (room-alike d e o)
    ∙ ap (λ (x : Own). (own_call (has_room e) x c).outcome) (own-alike d e f g o m)
    ∙ sym (ap (λ (a : DeskResult). a.outcome) (call-own e g m c))

-- ---- start

zero-seat : (i : ℕ) → i < seats → seat_at (zeros desk_length) i ≡ zeros seat_length
unfolding seat_at
zero-seat i l =
    let p = i * seat_length in
    let r = desk_length - (i * seat_length + seat_length) in
    let e : desk_length ≡ p + (seat_length + r) = omega arith in
    let z : zeros desk_length ≡ zeros p ++ (zeros seat_length ++ zeros r) =
    ap (λ (n : ℕ). zeros n) e ∙ sym (replicate-append-replicate p (seat_length + r) 0)
    ∙ ap (λ (x : List ℕ). zeros p ++ x) (sym (replicate-append-replicate seat_length r 0)) in
    ap (λ (x : List ℕ). take seat_length (drop p x)) z
    ∙ ap (take seat_length) (drop_at (zeros p) (zeros seat_length ++ zeros r) p (length-replicate {A = ℕ} p 0))
    ∙ take_at (zeros seat_length) (zeros r) seat_length (length-replicate {A = ℕ} seat_length 0)

zero-sits : (m i : ℕ) → i < seats → sits m (seat_at (zeros desk_length) i) ≡ false
zero-sits m i l = ap (sits m) (zero-seat i l) ∙ sits-free m (zeros seat_length) zeros-free

zero-formed : Formed (zeros desk_length)
zero-formed = record {
  bytes = bytes-zeros desk_length;
  long = length-replicate {A = ℕ} desk_length 0;
  good = λ i l. subst GoodSeat (sym (zero-seat i l)) zeros-good;
  once = λ m i j li lj h k. absurd (not-both h (zero-sits m i li));
}

pub started_empty : StartedEmpty
started_empty d m e =
    let s : started d ≡ zeros desk_length = if-true _ _ _ (test-met (eqb (length d) desk_length) Done BufferLength refl e).0 in
    subst (λ (x : List ℕ). IsDesk x × (is_seated x m ≡ false)) (sym s) (is-desk (zeros desk_length) zero-formed, le-ltb (place_of (zeros desk_length) m) seats (unplaced (zeros desk_length) m (zero-sits m)))

-- ---- what a call leaves as it was

-- a call that leaves the member what it has leaves the desk
untouched : (d : List ℕ) (m : ℕ) (c : Call) → ((room : Bool) (o : Own) → (desk_call d m c).outcome.reply ≡ (own_call room o c).outcome.reply → (own_call room o c).own ≡ o)
    → (desk_call d m c).desk ≡ d
untouched d m c h = go (well_formed d) refl
  where
    go : (b : Bool) → well_formed d ≡ b → (desk_call d m c).desk ≡ d
    go false w = ap (λ (a : DeskResult). a.desk) (exit-bad d m c w)
    go true w =
        let e : desk_call d m c ≡ settled_by d m (own_call (has_room d) (own_of d m) c) = on-own d w m c in
        ap (λ (a : DeskResult). a.desk) e
        ∙ ap (settled d m) (h (has_room d) (own_of d m) (ap (λ (a : DeskResult). a.outcome.reply) e))
        ∙ settled-own d w m

away-refused : (room : Bool) (c : Call) → ((own_call room away c).outcome.reply ≡ Done → ⊥) → (own_call room away c).own ≡ away
away-refused room c = go (is_opening c) room
  where
    go : (b r : Bool) → ((cond b (opened r) (not_open c)).outcome.reply ≡ Done → ⊥)
        → (cond b (opened r) (not_open c)).own ≡ away
    go true true n = absurd (n refl)
    go true false n = refl
    go false r n = refl

own-refused : (room : Bool) (o : Own) (c : Call) → ((own_call room o c).outcome.reply ≡ Done → ⊥) → (own_call room o c).own ≡ o
own-refused room away c n = away-refused room c n
own-refused room (here b) opening n = refl
own-refused room (here b) closing n = absurd (n refl)
own-refused room (here b) (changing c) n = ap here (sym (left b (lent_answer (changed c) b) (is-refused (lent_answer (changed c) b).reply n)))
own-refused room (here b) (asking q) n = refl
own-refused room (here b) (drawing line ula tile dots) n = refl

pub refused_untouched : RefusedUntouched
refused_untouched d m c n = untouched d m c (λ room o e. own-refused room o c (λ z. n (e ∙ z)))

own-asked : (room : Bool) (o : Own) (q : Query) → (own_call room o (asking q)).own ≡ o
own-asked room away q = refl
own-asked room (here b) q = refl

own-drawn : (room : Bool) (o : Own) (line : LineNumber) (ula tile dots : List ℕ) → (own_call room o (drawing line ula tile dots)).own ≡ o
own-drawn room away line ula tile dots = refl
own-drawn room (here b) line ula tile dots = refl

pub looks_untouched : LooksUntouched
looks_untouched = record {
  questions = λ d m q. untouched d m (asking q) (λ room o e. own-asked room o q);
  drawings = λ d m line ula tile dots. untouched d m (drawing line ula tile dots) (λ room o e. own-drawn room o line ula tile dots);
}

-- ---- the calls are those on the state

-- who has nothing has no seat
away-unseated : (d : List ℕ) (m : ℕ) → own_of d m ≡ away → is_seated d m ≡ false
unfolding own_of
away-unseated d m = go (is_seated d m)
  where
    go : (b : Bool) → cond b (here (drop 3 (seat_at d (place_of d m)))) away ≡ away → b ≡ false
    go true e = let f : ◌≡◌ {A = ℕ} 0 1 = cc in absurd (omega arith)
    go false e = refl

pub seated_has_state : SeatedHasState
unfolding record_of
seated_has_state d m k s = go (own_of d m) refl (own-is-record d (formed d k) m)
  where
    go : (o : Own) → own_of d m ≡ o → OwnRecord o → (t : State) × HasState d m t
    go away e r = absurd (not-both s (away-unseated d m e))
    go (here b) e r = (r.0, record { typed = r.1; lawful = r.2; own = e ∙ ap here (sym r.3) })

module _ (d : List ℕ) (m : ℕ) (s : State) (k : IsDesk d) (h : HasState d m s) where
  -- the call of the seated member
  state-call : (c : Call) → desk_call d m c ≡ settled_by d m (seated_call (record_of s) c)
  state-call c = by-own d k.formed m c (here (record_of s)) h.own

  change-replies : (c : Change) → (desk_call d m (changing c)).outcome.reply ≡ (changed c s).reply
  change-replies c =
      ap (λ (a : DeskResult). a.outcome.reply) (state-call (changing c)) ∙ ap (λ (a : Answer). a.reply) (answer-is s h.typed h.lawful (changed c))

  change-state : (c : Change) → CallTyped m (changing c) → HasState (desk_call d m (changing c)).desk m (changed c s).state
  change-state c t =
      let w = change-keeps c s t.byte h.typed h.lawful in
      record {
        typed = w.1;
        lawful = w.0;
        own =
            (own_alone d m (changing c) k t).1
            ∙ ap (λ (o : Own). (own_call (with_room d m (changing c)).room o (changing c)).own) h.own
            ∙ ap here (after_is s h.typed h.lawful c);
      }

pub base_calls : BaseCalls
base_calls = record {
  changes = λ d m s c k h t. (change-replies d m s k h c, change-state d m s k h c t);
  questions =
      λ d m s q k h.
      let e = state-call d m s k h (asking q) in
      let r = reading-is s h.typed h.lawful (asked q) in
      (ap (λ (a : DeskResult). a.outcome.reply) e ∙ ap reply_of r, ap (λ (a : DeskResult). a.outcome.value) e ∙ ap value_of r);
  drawings =
      λ d m s line ula tile dots k h.
      let e = state-call d m s k h (drawing line ula tile dots) in (
        ap (λ (a : DeskResult). a.outcome.reply) e ∙ reply-is s h.typed h.lawful line (length ula) (length tile) (length dots),
        ap (λ (a : DeskResult). a.outcome.dots) e ∙ dots-are s h.typed h.lawful line ula tile dots,
      );
}

-- ---- two members

-- a call of another leaves a member its state
other-state : (d : List ℕ) (n m : ℕ) (c : Call) (s : State) → IsDesk d → CallTyped n c → (n ≡ m → ⊥) → HasState d m s → HasState (desk_call d n c).desk m s
other-state d n m c s k t ne h = record { typed = h.typed; lawful = h.lawful; own = (others_kept d n m c k t ne).2 ∙ h.own }

-- a desk stays one under one call
desk-next : (d : List ℕ) (n : ℕ) (c : Call) → IsDesk d → CallTyped n c → IsDesk (desk_call d n c).desk
desk-next d n c k t = is-desk (desk_call d n c).desk (call_settled d (formed d k) n c t).formed

-- $44 by m, and then by n
module _ (d : List ℕ) (m n : ℕ) (s t : State) (x y : ℕ) (k : IsDesk d) (tm : CallTyped m (changing (Register 0x44 x))) (tn : CallTyped n (changing (Register 0x44 y)))
    (ne : m ≡ n → ⊥) (hs : HasState d m s) (ht : HasState d n t) where
  abbrev one : List ℕ
  one = (desk_call d m (changing (Register 0x44 x))).desk

  abbrev both : List ℕ
  both = (desk_call one n (changing (Register 0x44 y))).desk

  one-desk : IsDesk one
  one-desk = desk-next d m (changing (Register 0x44 x)) k tm

  both-desk : IsDesk both
  both-desk = desk-next one n (changing (Register 0x44 y)) one-desk tn

  both_first : HasState both m (changed (Register 0x44 x) s).state
  both_first =
      other-state one n m (changing (Register 0x44 y)) (changed (Register 0x44 x) s).state one-desk tn (λ e. ne (sym e))
      (change-state d m s k hs (Register 0x44 x) tm)

  both-second : HasState both n (changed (Register 0x44 y) t).state
  both-second =
      change-state one n t one-desk (other-state d m n (changing (Register 0x44 x)) t k tm ne ht) (Register 0x44 y) tn

pub own_colours : OwnColours
unfolding desk_after NineTwice
own_colours d m n s t x y p q k lm ln ne lx ly lp lq hs ht us ut =
    let tm : CallTyped m (changing (Register 0x44 x)) = record { member = lm; byte = lx } in
    let tn : CallTyped n (changing (Register 0x44 y)) = record { member = ln; byte = ly } in
    let um : CallTyped m (changing (Register 0x44 p)) = record { member = lm; byte = omega arith } in
    let un : CallTyped n (changing (Register 0x44 q)) = record { member = ln; byte = omega arith } in
    let e = both d m n s t x y k tm tn ne hs ht in
    let ke = both-desk d m n s t x y k tm tn ne hs ht in
    let he = both_first d m n s t x y k tm tn ne hs ht in
    let ge = both-second d m n s t x y k tm tn ne hs ht in
    let s1 = (changed (Register 0x44 x) s).state in
    let t1 = (changed (Register 0x44 y) t).state in
    let a = nine_twice s x p lx lp hs.typed hs.lawful us in
    let b = nine_twice t y q ly lq ht.typed ht.lawful ut in (
      subst (HasState (both e m n s1 t1 p q ke um un ne he ge) m) (ap (λ (r : Answer). r.state) a) (both_first e m n s1 t1 p q ke um un ne he ge),
      subst (HasState (both e m n s1 t1 p q ke um un ne he ge) n) (ap (λ (r : Answer). r.state) b) (both-second e m n s1 t1 p q ke um un ne he ge),
    )
