-- Rules 7.7, 7.8, 9.3, 9.15 to 9.18, 10.0, 10.9 and 10.12: a record moved to the other version, once over the version that it is moved from.
use Rattle.std.specs.Prelude.{ℕ, List, [], ◌∷◌, Bool, cond, ◌&&◌, length, eqb}
use Rattle.reply.specs.declared.Reply.{Reply}
use Rattle.reply.specs.declared.Reply.TheVariants.{Done, BufferLength, PairsDiffer}
use Rattle.reply.specs.Reply.{is_done}
use Rattle.reply.specs.First.{first_hit}
use Rattle.state.specs.declared.State.{State}
use Rattle.record_layout.specs.declared.Judgement.{Judgement}
use Rattle.record_layout.specs.declared.Version.{Version}
use Rattle.record_layout.specs.Version.{other}
use Rattle.record_layout.specs.Record.{record_in, record_length, state_as, told, judged}

-- $26 is $32, and $27 is $33
abbrev pub pairs_agree : State → Bool
pairs_agree s = eqb s.ula.x s.ula.loresx && eqb s.ula.y s.ula.loresy

-- a record of a version, moved: the record of the same state in the other one
unfoldable pub moved_record : Version → List ℕ → List ℕ
moved_record v b = record_in (other v) (state_as v b)

-- 3: the target
abbrev pub target_reply : Version → ℕ → Reply
target_reply v target = cond (eqb target (record_length (other v))) Done BufferLength

-- 15: the pairs differ, as they can in version 2 alone
abbrev pub pairs_reply : Version → List ℕ → Reply
pairs_reply v b = cond (pairs_agree (state_as v b)) Done PairsDiffer

-- moving: 3; 16, 17 or 18; 15
unfoldable pub move_reply : Version → List ℕ → ℕ → Reply
move_reply v b target = first_hit (target_reply v target ∷ (judged v b).reply ∷ pairs_reply v b ∷ [])

-- and the place that it tells: that of the record's judgement, unless 3 comes before it
unfoldable pub move_place : Version → List ℕ → ℕ → ℕ
move_place v b target = cond (is_done (target_reply v target)) (judged v b).place 0

abbrev pub move_judged : Version → List ℕ → ℕ → Judgement
move_judged v b target = told (move_reply v b target) (move_place v b target)

-- and the target afterwards
unfoldable pub moved_in : Version → List ℕ → List ℕ → List ℕ
moved_in v b target = cond (is_done (move_reply v b (length target))) (moved_record v b) target
