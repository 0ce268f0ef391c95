-- The exits of the code: a refusal leaves all; a seat, or the record in one, is lent and comes back as the call's definition has it.
use Prim.Native.Nat.{ℕ, ◌+◌, ◌*◌, ◌-◌, ◌≤◌, ◌<◌}
use mathlib.Core.Path.{◌≡◌, sym, ap, ◌∙◌}
use mathlib.Core.Bool.{Bool, true, false}
use mathlib.Core.List.{List, ◌++◌}
use native.Mathlib.Omega.{arith}
use lib.ListN.{length, take, drop}
use borrow.Author.Tests.{lt-ltb}
use Rattle.std.specs.Prelude.{Ok, Err}
use Rattle.lists.specs.Placed.{placed}
use Rattle.lists.specs.Tab.{tab}
use Rattle.lists.proofs.Tab.{tab-zeros}
use Rattle.lists.proofs.Cuts.{cut-length}
use Rattle.lists.proofs.Placed.{placed-lent}
use Rattle.lists.proofs.Cond.{if-false}
use Rattle.reply.specs.declared.Reply.{Reply}
use Rattle.reply.specs.declared.Reply.TheVariants.{Done}
use Rattle.reply.specs.Reply.{is_done}
use Rattle.state.specs.Reset.{reset_state}
use Rattle.surface.specs.declared.lines.LineNumber.{LineNumber}
use Rattle.register_answers.specs.Answers.{Reading, answered}
use Rattle.reply.specs.Answered.{value_of}
use Rattle.record_layout.specs.Record.{record_of}
use Rattle.lent_drawing.specs.Drawn.{lent_draw_reply, lent_drawn}
use Rattle.lent.specs.declared.changes.Change.{Change}
use Rattle.lent.specs.declared.queries.Query.{Query}
use Rattle.lent.specs.Calls.{changed, asked}
use Rattle.lent.specs.Lent.{lent_answer, lent_after, lent_reading}
use Rattle.lent.proofs.Exits.{lent-told}
use Rattle.desk_seats.specs.Seats.{seats, seat_length, zeros, seat_at, seat_of}
use Rattle.desk_places.specs.Desks.{well_formed, free_of, has_room}
use Rattle.desk_seats.proofs.Cuts.{record-lent}
use Rattle.desk_places.proofs.Judged.{formed-long}
use Rattle.desk_places.proofs.Found.{SitsAt, Unplaced, not-formed, not-seated, room-free, FreeAt, Unopened}
use Rattle.desk.specs.Own.{Call, opening, closing, changing, asking, drawing, line_of, is_opening, away_call}
use Rattle.desk.specs.Desk.{DeskResult, desk_call, settled_by}
use Rattle.desk.proofs.Exits.{refused_by, refused-call, refused-opening, away-call, settled-new, seated-call, settled_here, settled-gone}

-- a call answers r and leaves the desk e
abbrev Ends : List ℕ → ℕ → Call → Reply → List ℕ → Type 0
Ends d m c r e = (r ≡ (desk_call d m c).outcome.reply) × (e ≡ (desk_call d m c).desk)

ends : (d : List ℕ) (m : ℕ) (c : Call) (a : DeskResult) → desk_call d m c ≡ a → Ends d m c a.outcome.reply a.desk
ends d m c a e = (ap (λ (x : DeskResult). x.outcome.reply) (sym e), ap (λ (x : DeskResult). x.desk) (sym e))

-- ---- a refusal

pub opening-left : (d : List ℕ) (m : ℕ) (r : Reply) → Unopened d m r → Ends d m opening r d
opening-left d m r u = ends d m opening (refused_by r d opening) (refused-opening d m r u)

not-done : (d : List ℕ) (m : ℕ) (r : Reply) → Unplaced d m r → is_done r ≡ false
not-done d m r (not-formed w e) = ap is_done (sym e)
not-done d m r (not-seated w n e) = ap is_done (sym e)

-- a reading of member m of desk d that says what the call c answers
abbrev Reads : List ℕ → ℕ → Call → Reading → Type 0
Reads d m c a =
    (a ≡ answered (desk_call d m c).outcome.reply (desk_call d m c).outcome.value) × (value_of a ≡ (desk_call d m c).outcome.value)

module _ (d : List ℕ) (m : ℕ) (r : Reply) (c : Call) (o : is_opening c ≡ false) (u : Unplaced d m r) where
  refusal_is : refused_by r d c ≡ desk_call d m c
  refusal_is = sym (refused-call d m r c o u)

  pub desk-left : Ends d m c r d
  desk-left = ends d m c (refused_by r d c) (sym refusal_is)

  pub value_none : Reads d m c (Err r)
  value_none = (
    sym (if-false (is_done r) (Ok 0) (Err r) (not-done d m r u)) ∙ ap (λ (x : DeskResult). answered x.outcome.reply x.outcome.value) refusal_is,
    ap (λ (x : DeskResult). x.outcome.value) refusal_is,
  )

  pub line-left : (r ≡ (desk_call d m c).outcome.reply) × (line_of c ≡ (desk_call d m c).outcome.dots)
  line-left = (ap (λ (x : DeskResult). x.outcome.reply) refusal_is, ap (λ (x : DeskResult). x.outcome.dots) refusal_is)

-- ---- a part that is lent comes back

given_back : (d ys : List ℕ) (at n : ℕ) → at + n ≤ length d → length ys ≡ length (take n (drop at d))
    → take at d ++ (ys ++ drop n (drop at d)) ≡ placed d at ys
given_back d ys at n h e = placed-lent d ys at n (e ∙ cut-length d at n h)

-- the bytes from a place of seat i on to its end
abbrev rest_of : List ℕ → ℕ → ℕ → List ℕ
rest_of d i at = take (i * seat_length + seat_length - at) (drop at d)

-- and the desk with others in their place
abbrev rest_back : List ℕ → ℕ → ℕ → List ℕ → List ℕ
rest_back d i at ys = take at d ++ (ys ++ drop (i * seat_length + seat_length - at) (drop at d))

module _ (d : List ℕ) (w : well_formed d ≡ true) (i : ℕ) (l : i < seats) where
  pub inside : i * seat_length + seat_length ≤ length d
  inside = omega (arith, formed-long d w)

  seat-back : (ys : List ℕ) → length ys ≡ length (rest_of d i (i * seat_length)) → rest_back d i (i * seat_length) ys ≡ placed d (i * seat_length) ys
  seat-back ys e =
      given_back d ys (i * seat_length) (i * seat_length + seat_length - i * seat_length) (omega (arith, inside)) e

  record-back : (ys : List ℕ) → length ys ≡ length (rest_of d i (i * seat_length + 3))
      → rest_back d i (i * seat_length + 3) ys ≡ placed d (i * seat_length + 3) ys
  record-back ys e =
      given_back d ys (i * seat_length + 3) (i * seat_length + seat_length - (i * seat_length + 3)) (omega (arith, inside)) e

-- ---- opening

pub exit-opened : (d : List ℕ) (m i : ℕ) → FreeAt d m i → (ys : List ℕ) → length ys ≡ length (rest_of d i (i * seat_length))
    → ys ≡ seat_of m (record_of reset_state) → Ends d m opening Done (rest_back d i (i * seat_length) ys)
exit-opened d m i f ys g y =
    let w = f.formed in
    let r : has_room d ≡ true = room-free d ∙ lt-ltb (free_of d) seats (omega (arith, f.below, f.place)) in
    let e = ends d m opening _ (away-call d w m f.unseated opening ∙ ap (λ (b : Bool). settled_by d m (away_call b opening)) r) in (
      e.0,
      seat-back d w i f.below ys g ∙ ap (placed d (i * seat_length)) y
          ∙ ap (λ (k : ℕ). placed d (k * seat_length) (seat_of m (record_of reset_state))) f.place
          ∙ sym (settled-new d m f.unseated (record_of reset_state)) ∙ e.1,
    )

-- ---- the calls of a member with a seat

module _ (d : List ℕ) (m i : ℕ) (s : SitsAt d m i) where
  pub exit-closed : (ys : List ℕ) → length ys ≡ length (rest_of d i (i * seat_length)) → ys ≡ tab (λ (k : ℕ). 0) (length (rest_of d i (i * seat_length)))
      → Ends d m closing Done (rest_back d i (i * seat_length) ys)
  exit-closed ys g y =
      let e = ends d m closing _ (seated-call d s.formed m i s.below s.place closing) in
      let n : length (rest_of d i (i * seat_length)) ≡ seat_length =
      cut-length d (i * seat_length) (i * seat_length + seat_length - i * seat_length) (omega (arith, inside d s.formed i s.below)) ∙ omega arith in (
        e.0,
        seat-back d s.formed i s.below ys g ∙ ap (placed d (i * seat_length)) (y ∙ tab-zeros (length (rest_of d i (i * seat_length))) ∙ ap (λ (k : ℕ). zeros k) n)
            ∙ sym (settled-gone d m i s.below s.place) ∙ e.1,
      )

  pub exit-changed : (c : Change) (r : Reply) (ys : List ℕ) → length ys ≡ length (rest_of d i (i * seat_length + 3))
      → (r ≡ (lent_answer (changed c) (rest_of d i (i * seat_length + 3))).reply)
      × (ys ≡ lent_after (rest_of d i (i * seat_length + 3)) (lent_answer (changed c) (rest_of d i (i * seat_length + 3))))
      → Ends d m (changing c) r (rest_back d i (i * seat_length + 3) ys)
  exit-changed c r ys g h =
      let e = ends d m (changing c) _ (seated-call d s.formed m i s.below s.place (changing c)) in
      let f = record-lent d i in (
        h.0 ∙ ap (λ (b : List ℕ). (lent_answer (changed c) b).reply) f ∙ e.0,
        record-back d s.formed i s.below ys g
            ∙ ap (placed d (i * seat_length + 3)) (h.1 ∙ ap (λ (b : List ℕ). lent_after b (lent_answer (changed c) b)) f)
            ∙ sym (settled_here d m i s.below s.place _) ∙ e.1,
      )

  -- a question to the record in the seat, and a line of it
  module _ (b : List ℕ) (f : b ≡ drop 3 (seat_at d i)) where
    pub exit-asked : (q : Query) (r : Reading) → r ≡ lent_reading (asked q) b → Reads d m (asking q) r
    exit-asked q r h =
        let e = sym (seated-call d s.formed m i s.below s.place (asking q)) in
        let k = h ∙ ap (lent_reading (asked q)) f in (
          k ∙ sym (lent-told q (drop 3 (seat_at d i))) ∙ ap (λ (x : DeskResult). answered x.outcome.reply x.outcome.value) e,
          ap value_of k ∙ ap (λ (x : DeskResult). x.outcome.value) e,
        )

    pub exit-drawn : (line : LineNumber) (ula tile dots : List ℕ) (r : Reply) (ys : List ℕ)
        → (r ≡ lent_draw_reply line (length ula) (length tile) (length dots) b) × (ys ≡ lent_drawn line ula tile dots b)
        → (r ≡ (desk_call d m (drawing line ula tile dots)).outcome.reply) × (ys ≡ (desk_call d m (drawing line ula tile dots)).outcome.dots)
    exit-drawn line ula tile dots r ys h =
        let e = sym (seated-call d s.formed m i s.below s.place (drawing line ula tile dots)) in (
          h.0 ∙ ap (lent_draw_reply line (length ula) (length tile) (length dots)) f ∙ ap (λ (x : DeskResult). x.outcome.reply) e,
          h.1 ∙ ap (lent_drawn line ula tile dots) f ∙ ap (λ (x : DeskResult). x.outcome.dots) e,
        )
