-- The exits of a move: what it is refused for, in its order, what a move that is done has met, and the target after an answer.
use mathlib.Core.Path.{◌≡◌, refl, sym, ap, ap₂, ◌∙◌}
use mathlib.Core.List.{List, [], ◌∷◌}
use mathlib.Core.Bool.{true, false, cond}
use Prim.Native.Nat.{ℕ, ◌≤◌}
use native.Mathlib.Omega.{arith}
use lib.ListN.{length}
use lib.Dec.{eqb}
use borrow.Author.Tests.{eqb-true}
use Rattle.lists.proofs.Cond.{if-true, if-false, either}
use Rattle.reply.specs.declared.Reply.{Reply}
use Rattle.reply.specs.declared.Reply.TheVariants.{Done, BufferLength, PairsDiffer}
use Rattle.reply.specs.Reply.{is_done}
use Rattle.reply.specs.First.{first_of, first_hit}
use Rattle.reply.proofs.Done.{is-done, test-met}
use Rattle.reply.proofs.Order.{first_done, first-refused, last_of, all_done}
use Rattle.record_layout.specs.declared.Judgement.{Judgement}
use Rattle.record_layout.specs.declared.Version.{Version}
use Rattle.record_layout.specs.Version.{other}
use Rattle.record_layout.specs.Record.{record_in, record_length, accepted, state_as, told, judged}
use Rattle.record_layout.proofs.Stages.{done-accepted}
use Rattle.record_layout.proofs.RoundTrip.{long}
use Rattle.record_layout.proofs.Told.{place-small}
use Rattle.record_moves.specs.Moves.{pairs_agree, moved_record, target_reply, pairs_reply, move_reply, move_place, move_judged, moved_in}

-- of two refusals, the second where the first is none
second-hit : (r p : Reply) → is_done r ≡ true → first_hit (r ∷ p ∷ []) ≡ p
unfolding first_hit
second-hit r p e = first_done r (first_of p Done) e ∙ last_of p

first-hit : (r p : Reply) → is_done r ≡ false → first_hit (r ∷ p ∷ []) ≡ r
unfolding first_hit
first-hit r p e = first-refused r (first_of p Done) e

-- the record's part of a move: `j` is its judgement
module _ (v : Version) (b : List ℕ) (j : Judgement) (h : j ≡ judged v b) where
  -- what refuses the record, with the judgement's place
  abbrev pub record_judged : Judgement
  record_judged = told (first_hit ((judged v b).reply ∷ pairs_reply v b ∷ [])) (judged v b).place

  reply-is : j.reply ≡ (judged v b).reply
  reply-is = ap (λ (x : Judgement). x.reply) h

  placed-as : (r : Reply) → r ≡ first_hit ((judged v b).reply ∷ pairs_reply v b ∷ []) → told r j.place ≡ record_judged
  placed-as r e = ap₂ told e (ap (λ (x : Judgement). x.place) h)

  pub pairs-long : is_done j.reply ≡ true → length b ≡ record_length v
  pairs-long d = long v b (done-accepted v b (is-done (judged v b).reply (ap is_done (sym reply-is) ∙ d)))

  pairs-told : is_done j.reply ≡ true → pairs_reply v b ≡ first_hit ((judged v b).reply ∷ pairs_reply v b ∷ [])
  pairs-told d = sym (second-hit (judged v b).reply (pairs_reply v b) (ap is_done (sym reply-is) ∙ d))

  pub pairs-met : is_done j.reply ≡ true → pairs_agree (state_as v b) ≡ true → j ≡ record_judged
  pairs-met d p = placed-as j.reply (is-done j.reply d ∙ sym (if-true (pairs_agree (state_as v b)) Done PairsDiffer p) ∙ pairs-told d)

  pub pairs-differ : is_done j.reply ≡ true → pairs_agree (state_as v b) ≡ false → told PairsDiffer j.place ≡ record_judged
  pairs-differ d p = placed-as PairsDiffer (sym (if-false (pairs_agree (state_as v b)) Done PairsDiffer p) ∙ pairs-told d)

  pub record-refused : is_done j.reply ≡ false → j ≡ record_judged
  record-refused d = placed-as j.reply (reply-is ∙ sym (first-hit (judged v b).reply (pairs_reply v b) (ap is_done (sym reply-is) ∙ d)))

-- 3 before all else, which tells no place
pub target-done : (sized : Reply) (stored : Judgement) → is_done sized ≡ true → stored ≡ told (first_of sized stored.reply) (cond (is_done sized) stored.place 0)
target-done sized stored d = ap₂ told (sym (first_done sized stored.reply d)) (sym (if-true (is_done sized) stored.place 0 d))

pub target-refused : (sized : Reply) (stored : Judgement) → is_done sized ≡ false → told sized 0 ≡ told (first_of sized stored.reply) (cond (is_done sized) stored.place 0)
target-refused sized stored d = ap₂ told (sym (first-refused sized stored.reply d)) (sym (if-false (is_done sized) stored.place 0 d))

module _ (v : Version) (b t : List ℕ) where
  -- the pieces in their order; `w` is the version moved to, `n` its length
  pub ordered : (w : Version) (n : ℕ) (sized : Reply) (stored r : Judgement) → w ≡ other v → n ≡ record_length w → sized ≡ cond (eqb (length t) n) Done BufferLength
      → stored ≡ told (first_hit ((judged v b).reply ∷ pairs_reply v b ∷ [])) (judged v b).place
      → r ≡ told (first_of sized stored.reply) (cond (is_done sized) stored.place 0) → r ≡ move_judged v b (length t)
  unfolding move_reply move_place first_hit
  ordered w n sized stored r ew en es ef er =
      let k : n ≡ record_length (other v) = en ∙ ap record_length ew in
      let s : sized ≡ target_reply v (length t) = es ∙ ap (λ (x : ℕ). cond (eqb (length t) x) Done BufferLength) k in
      er ∙ rw (ef, s)

  -- what a move that is done has met
  pub met : move_reply v b (length t) ≡ Done → (length b ≡ record_length v) × (accepted v b ≡ true) × (pairs_agree (state_as v b) ≡ true) × (length t ≡ record_length (other v))
  unfolding move_reply
  met d =
      let all = all_done (target_reply v (length t) ∷ (judged v b).reply ∷ pairs_reply v b ∷ []) d in
      let a = done-accepted v b all.1.0 in (
        long v b a,
        a,
        (test-met (pairs_agree (state_as v b)) Done PairsDiffer refl all.1.1.0).0,
        eqb-true (length t) (record_length (other v)) (test-met (eqb (length t) (record_length (other v))) Done BufferLength refl all.0).0,
      )

  -- the target after a move that is done, and after one that is refused
  pub moved : (w : Version) (after : List ℕ) → is_done (move_reply v b (length t)) ≡ true → w ≡ other v → after ≡ record_in w (state_as v b) → after ≡ moved_in v b t
  unfolding moved_in moved_record
  moved w after d ew e = e ∙ ap (λ (x : Version). record_in x (state_as v b)) ew ∙ sym (if-true _ _ _ d)

  pub left : is_done (move_reply v b (length t)) ≡ false → t ≡ moved_in v b t
  unfolding moved_in
  left d = sym (if-false _ _ _ d)

-- a place that is told is one of the record's
pub move-place-small : (v : Version) (b : List ℕ) (n : ℕ) → move_place v b n ≤ 2152
unfolding move_place
move-place-small v b n = either (λ (k : ℕ). k ≤ 2152) (is_done (target_reply v n)) (judged v b).place 0 (place-small v b) (omega arith)
