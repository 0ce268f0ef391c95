-- Rules 1.5, 7.7, 7.8, 7.11 and 10.12: what holds of moves there and back. `Bytes` is what the type of a lent record gives.
use Rattle.std.specs.Prelude.{◌≡◌, List, ◌++◌, true, cond, ℕ, ◌-◌, length, take, drop}
use Rattle.lists.specs.Bytes.{Bytes}
use Rattle.reply.specs.declared.Reply.TheVariants.{Done, BufferLength, PairsDiffer, WrongVersion}
use Rattle.record_layout.specs.declared.Version.{Version}
use Rattle.record_layout.specs.declared.Version.TheVariants.{Version1, Version2}
use Rattle.record_layout.specs.Version.{other, added}
use Rattle.record_layout.specs.Places.{parts_place, lores_xplace, ula_clip_place}
use Rattle.record_layout.specs.Record.{head_of, record_length, state_as, told, judged, read_old, read_record, write_reply, written_in}
use Rattle.record_layout.specs.Claims.{IsRecord}
use Rattle.record_moves.specs.Moves.{pairs_agree, move_reply, move_judged, moved_in}

-- moving up is never refused for the pairs: in the state of an old record they agree
abbrev pub OldPairsAgree : Type 0
OldPairsAgree = (b : List ℕ) → pairs_agree (state_as Version1 b) ≡ true

-- what a move answers, case by case: 3 for a target of the wrong length; else what the bytes are refused for as a record of the version moved from,
-- 17 at the version where they are one of the other; else 15 where the pairs differ, which comes after 18 and tells no place
pub record MovesAnswer (v : Version) (b : List ℕ) (n : ℕ) : Type 0 where
  pub unsized : (n ≡ record_length (other v) → ⊥) → move_judged v b n ≡ told BufferLength 0
  pub none : n ≡ record_length (other v) → (IsRecord v b → ⊥) → move_judged v b n ≡ judged v b
  pub already : n ≡ record_length (other v) → IsRecord (other v) b → move_judged v b n ≡ told WrongVersion 2
  pub taken : n ≡ record_length (other v) → IsRecord v b → move_judged v b n ≡ told (cond (pairs_agree (state_as v b)) Done PairsDiffer) 0

abbrev pub MovesRefuse : Type 0
MovesRefuse = (v : Version) (b : List ℕ) (n : ℕ) → Bytes b → MovesAnswer v b n

-- a record that is moved reads as the same state
abbrev pub MovedReadsSame : Type 0
MovedReadsSame = (v : Version) (b target : List ℕ) → Bytes b → move_reply v b (length target) ≡ Done → read_record (moved_in v b target) ≡ read_record b

-- a record that is moved can be moved again, and that gives its bytes: up then back the old ones, back then up the new ones
abbrev pub MovedAndBack : Type 0
MovedAndBack = (v : Version) (b target home : List ℕ) → Bytes b → move_reply v b (length target) ≡ Done → length home ≡ record_length v
    → (move_reply (other v) (moved_in v b target) (length home) ≡ Done) × (moved_in (other v) (moved_in v b target) home ≡ b)

-- an old record that is read, written and moved back gives its bytes
abbrev pub ReadWrittenMovedBack : Type 0
ReadWrittenMovedBack = (b target home : List ℕ) → Bytes b → (read_old b).reply ≡ Done → length target ≡ record_length Version2 → length home ≡ record_length Version1
    → (write_reply target (read_record b).state ≡ Done)
    × (move_reply Version2 (written_in target (read_record b).state) (length home) ≡ Done)
    × (moved_in Version2 (written_in target (read_record b).state) home ≡ b)

-- the bytes of a moved record: another head, the parts up to $33 as they were, $32 and $33 once more where the other version has $26 and $27,
-- and all parts from the ULA clip on as they were
abbrev pub MovedBytes : Type 0
MovedBytes = (v : Version) (b target : List ℕ) → Bytes b → move_reply v b (length target) ≡ Done
    → moved_in v b target
    ≡ head_of (other v) ++ (take (ula_clip_place Version1 - parts_place) (drop parts_place b) ++ (take (added (other v)) (drop lores_xplace b) ++ drop (ula_clip_place v) b))
