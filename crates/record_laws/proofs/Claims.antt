-- The claims on moves: a record that is moved holds the same state, so that reading it gives that state, and moving it again its bytes.
use mathlib.Core.Path.{◌≡◌, refl, sym, ap, ◌∙◌}
use mathlib.Core.List.{List, [], ◌∷◌}
use mathlib.Core.Bool.{true, false}
use Prim.Native.Nat.{ℕ}
use lib.ListN.{length}
use lib.Dec.{eqb}
use borrow.Author.Tests.{eq-eqb, ne_eqb}
use Rattle.lists.specs.Bytes.{Bytes}
use Rattle.lists.proofs.Cond.{if-true, if-false}
use Rattle.reply.specs.declared.Reply.{Reply}
use Rattle.reply.specs.declared.Reply.TheVariants.{Done, BufferLength}
use Rattle.reply.specs.Reply.{is_done}
use Rattle.reply.specs.First.{first_of, first_hit}
use Rattle.reply.proofs.Order.{last_of}
use Rattle.state.specs.declared.State.{State}
use Rattle.state.specs.Lawful.{lawful_state}
use Rattle.state.specs.Typed.{Typed}
use Rattle.record_layout.specs.declared.Judgement.{Judgement}
use Rattle.record_layout.specs.declared.RecordRead.{RecordRead}
use Rattle.record_layout.specs.declared.Version.{Version}
use Rattle.record_layout.specs.declared.Version.TheVariants.{Version1, Version2}
use Rattle.record_layout.specs.Version.{other, kept_in}
use Rattle.record_layout.specs.Record.{record_in, record_length, record_of, accepted, state_as, told, passed, judged, read_with, read_as, read_record}
use Rattle.record_layout.proofs.Whole.{fits, record-length, state-whole}
use Rattle.record_layout.proofs.Types.{state-typed}
use Rattle.record_layout.proofs.Stages.{judged-passed, accepts, done-accepted}
use Rattle.record_layout.proofs.RoundTrip.{record-accepted, record-read, long, state-lawful, same_bytes}
use Rattle.record_layout.proofs.Claims.{read_told, write_done, record-taken, reads_records, refuses_other}
use Rattle.record_moves.specs.Moves.{pairs_agree, target_reply, pairs_reply, move_reply, move_place, move_judged, moved_in}
use Rattle.record_moves.proofs.Moved.{agree, old-pairs, moved-bytes}
use Rattle.record_moves.proofs.Exits.{met, moved}
use Rattle.record_laws.specs.Claims.{OldPairsAgree, MovesRefuse, MovedReadsSame, MovedAndBack, ReadWrittenMovedBack, MovedBytes}

pub old_pairs_agree : OldPairsAgree
old_pairs_agree = old-pairs

other-twice : (v : Version) → other (other v) ≡ v
other-twice Version1 = refl
other-twice Version2 = refl

-- where the pairs agree each version keeps the whole state
pub kept_whole : (v : Version) (s : State) → pairs_agree s ≡ true → kept_in v s ≡ s
kept_whole Version1 s e = let p = agree s e in rw (sym p.0, sym p.1)
kept_whole Version2 s e = refl

-- a move that meets all is done
all-met : (a b c : Reply) → a ≡ Done → b ≡ Done → c ≡ Done → first_hit (a ∷ b ∷ c ∷ []) ≡ Done
unfolding first_hit first_of
all-met a b c ea eb ec = rw (ea, eb, ec)

move-done : (v : Version) (b : List ℕ) (n : ℕ) → n ≡ record_length (other v) → accepted v b ≡ true → pairs_agree (state_as v b) ≡ true → move_reply v b n ≡ Done
unfolding move_reply
move-done v b n l a p =
    all-met (target_reply v n) (judged v b).reply (pairs_reply v b) (if-true _ _ _ (eq-eqb n (record_length (other v)) l))
    (ap (λ (j : Judgement). j.reply) (judged-passed v b a)) (if-true _ _ _ p)

-- a move into a target of the right length: the record's judgement, then the pairs
module _ (v : Version) (b : List ℕ) (n : ℕ) (l : n ≡ record_length (other v)) where
  sized : target_reply v n ≡ Done
  sized = if-true _ _ _ (eq-eqb n (record_length (other v)) l)

  record-hit : is_done (judged v b).reply ≡ false → move_judged v b n ≡ judged v b
  unfolding move_reply move_place first_hit first_of
  record-hit e = rw (sized, e)

  pairs-hit : judged v b ≡ passed → move_judged v b n ≡ told (pairs_reply v b) 0
  unfolding move_reply move_place first_hit first_of
  pairs-hit e = rw (sized, e) (ap (λ (r : Reply). told r 0) (last_of (pairs_reply v b)))

-- the judgement in a reading
judged-by : (v : Version) (b : List ℕ) {j : Judgement} {s : State} → read_as v b ≡ read_with j s → judged v b ≡ j
judged-by v b e = ap (λ (r : RecordRead). told r.reply r.place) e

pub moves_refuse : MovesRefuse
unfolding move_reply move_place first_hit first_of
moves_refuse v b n y = record {
  unsized = λ l. rw (if-false (eqb n (record_length (other v))) Done BufferLength (ne_eqb n (record_length (other v)) l));
  none = λ l h. record-hit v b n l ((reads_records v b y).1 h).0;
  already = λ l r. let e = judged-by v b (refuses_other v b r) in record-hit v b n l (ap (λ (j : Judgement). is_done j.reply) e) ∙ e;
  taken = λ l r. pairs-hit v b n l (judged-passed v b (record-taken v b r));
}

module _ (v : Version) (b t : List ℕ) (y : Bytes b) (d : move_reply v b (length t) ≡ Done) where
  abbrev s : State
  s = state_as v b

  abbrev c : List ℕ
  c = record_in (other v) s

  took : accepted v b ≡ true
  took = (met v b t d).1

  pairs : pairs_agree s ≡ true
  pairs = (met v b t d).2

  typed : Typed s
  typed = state-typed b y v

  lawful : lawful_state s ≡ true
  lawful = state-lawful v b took

  -- the moved record, and the state in it
  pub is-moved : moved_in v b t ≡ c
  is-moved = sym (moved v b t (other v) c (ap is_done d) refl refl)

  state-same : state_as (other v) c ≡ s
  state-same = state-whole (other v) s (fits (other v) s typed) ∙ kept_whole (other v) s pairs

  read_same : read_record c ≡ read_record b
  read_same =
      read_told (other v) c (record-length (other v) s (fits (other v) s typed))
      ∙ record-read s typed (other v) lawful ∙ ap (read_with passed) (kept_whole (other v) s pairs) ∙ sym (accepts v b took)
      ∙ sym (read_told v b (long v b took))

  back_done : (home : List ℕ) → length home ≡ record_length v → move_reply (other v) c (length home) ≡ Done
  back_done home l =
      move-done (other v) c (length home) (l ∙ ap record_length (sym (other-twice v))) (record-accepted s typed (other v) lawful)
      (ap pairs_agree state-same ∙ pairs)

  back-bytes : (home : List ℕ) → length home ≡ record_length v → moved_in (other v) c home ≡ b
  back-bytes home l =
      sym (moved (other v) c home v b (ap is_done (back_done home l)) (sym (other-twice v)) (sym (same_bytes v b took y) ∙ ap (record_in v) (sym state-same)))

pub moved_reads_same : MovedReadsSame
moved_reads_same v b t y d = ap read_record (is-moved v b t y d) ∙ read_same v b t y d

pub moved_and_back : MovedAndBack
moved_and_back v b t home y d l = (
  ap (λ (x : List ℕ). move_reply (other v) x (length home)) (is-moved v b t y d) ∙ back_done v b t y d home l,
  ap (λ (x : List ℕ). moved_in (other v) x home) (is-moved v b t y d) ∙ back-bytes v b t y d home l,
)

pub moved_bytes : MovedBytes
moved_bytes v b t y d = let m = met v b t d in is-moved v b t y d ∙ moved-bytes v (other v) b y m.1 m.2

pub read_written_moved_back : ReadWrittenMovedBack
unfolding record_of
read_written_moved_back b t home y e lt lh =
    let a = done-accepted Version1 b e in
    let d = move-done Version1 b (length t) lt a (old-pairs b) in
    let r : read_record b ≡ read_with passed (state_as Version1 b) = read_told Version1 b (long Version1 b a) ∙ accepts Version1 b a in
    let w = write_done t (read_record b).state lt (ap (λ (x : RecordRead). lawful_state x.state) r ∙ state-lawful Version1 b a) in
    let q = w.1 ∙ ap (λ (x : RecordRead). record_of x.state) r in (
      w.0,
      ap (λ (x : List ℕ). move_reply Version2 x (length home)) q ∙ back_done Version1 b t y d home lh,
      ap (λ (x : List ℕ). moved_in Version2 x home) q ∙ back-bytes Version1 b t y d home lh,
    )
