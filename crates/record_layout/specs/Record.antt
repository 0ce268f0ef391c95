-- Rules 7.1, 7.4 to 7.6, 7.9, 7.10, 7.13, 9.3, 9.4, 9.16 to 9.18, 10.0, 10.6, 10.7 and 10.9: a record, from its head on, what reading one accepts
-- and what it refuses the others for, and what writing one answers.
use Rattle.std.specs.Prelude.{ℕ, ◌+◌, List, [], ◌∷◌, ◌++◌, Bool, cond, ◌&&◌, ◌||◌, length, get_or, eqb}
use Rattle.reply.specs.declared.Reply.{Reply}
use Rattle.reply.specs.declared.Reply.TheVariants.{Done, BufferLength, WrongCount, WrongVersion, BadField}
use Rattle.reply.specs.Reply.{is_done}
use Rattle.state.specs.declared.State.{State}
use Rattle.state.specs.Lawful.{lawful_state, lawful_reply}
use Rattle.state.specs.Reset.{reset_state}
use Rattle.record_layout.specs.Fields.{pair, field_bytes, field_at}
use Rattle.record_layout.specs.Parts.{sizes, bytes_of, state_at, first_bad_in}
use Rattle.record_layout.specs.declared.Judgement.{Judgement}
use Rattle.record_layout.specs.declared.RecordRead.{RecordRead}
use Rattle.record_layout.specs.declared.Version.{Version}
use Rattle.record_layout.specs.declared.Version.TheVariants.{Version1, Version2}
use Rattle.record_layout.specs.Version.{version_number, added, current}
use Rattle.record_layout.specs.Layout.{layout, from_layout}
use Rattle.record_layout.specs.Places.{count_place, version_place, parts_place}

-- the number of bytes following: the version, and the parts
abbrev pub following : Version → ℕ
following v = 1 + sizes (layout v)

-- the head of a record: the number and the version
abbrev pub head_of : Version → List ℕ
head_of v = field_bytes pair (following v) ++ (version_number v ∷ [])

-- the record of a state in a version
abbrev pub record_in : Version → State → List ℕ
record_in v s = head_of v ++ bytes_of (layout v) s

-- how many bytes a record has; `LengthOfRecord` ties it to the layout
abbrev pub record_length : Version → ℕ
record_length v = 2150 + added v

-- the version that has records of a length: an old record is told by its length
abbrev pub version_of : ℕ → Version
version_of n = cond (eqb n (record_length Version1)) Version1 Version2

-- the record of a state
unfoldable pub record_of : State → List ℕ
record_of s = record_in current s

-- 16 is told where this fails: the stated number is there, is the number of bytes following, and is that of a version
unfoldable pub counted : List ℕ → Bool
counted b =
    let n = field_at pair b count_place in
    eqb (length b) (2 + n) && (eqb n (following Version1) || eqb n (following Version2))

-- 17 where this fails: the stated version is v, and so is the one of that length
abbrev pub versioned : Version → List ℕ → Bool
versioned v b = eqb (length b) (record_length v) && eqb (get_or b version_place 0) (version_number v)

-- the place of the first bad field, counted from the front, or the length where none is bad
unfoldable pub first_bad : Version → List ℕ → ℕ
first_bad v b = first_bad_in (layout v) b parts_place (length b)

-- 18 where this fails: every field keeps its bound
abbrev pub sound : Version → List ℕ → Bool
sound v b = eqb (first_bad v b) (length b)

-- the state in bytes, read as a record of a version
unfoldable pub state_as : Version → List ℕ → State
state_as v b = state_at (layout v) (from_layout v) b parts_place

-- bytes pass the three stages of reading
abbrev pub accepted : Version → List ℕ → Bool
accepted v b = counted b && (versioned v b && sound v b)

-- a reply, and the place that it tells
abbrev pub told : Reply → ℕ → Judgement
told r k = record { reply = r; place = k }

-- nothing is refused, and no place told
abbrev pub passed : Judgement
passed = told Done 0

-- what bytes are refused for as a record of a version: 16, 17, 18
abbrev pub judged_fields : Version → List ℕ → Judgement
judged_fields v b = cond (sound v b) passed (told BadField (first_bad v b))

abbrev pub judged_version : Version → List ℕ → Judgement
judged_version v b = cond (versioned v b) (judged_fields v b) (told WrongVersion version_place)

unfoldable pub judged : Version → List ℕ → Judgement
judged v b = cond (counted b) (judged_version v b) (told WrongCount count_place)

-- a judgement with a state
abbrev pub read_with : Judgement → State → RecordRead
read_with j s = record { reply = j.reply; place = j.place; state = s }

-- record reading: 16, 17, 18, each with the reset state
abbrev pub read_as : Version → List ℕ → RecordRead
read_as v b = read_with (judged v b) (cond (is_done (judged v b).reply) (state_as v b) reset_state)

-- the reader of version 2, which takes both, and its judgement
unfoldable pub read_record : List ℕ → RecordRead
read_record b = read_as (version_of (length b)) b

unfoldable pub judged_record : List ℕ → Judgement
judged_record b = judged (version_of (length b)) b

-- the reader of version 1, and that of the version that is written alone
abbrev pub read_old : List ℕ → RecordRead
read_old b = read_as Version1 b

abbrev pub read_current : List ℕ → RecordRead
read_current b = read_as current b

-- record writing: 3, 4
abbrev pub write_reply : List ℕ → State → Reply
write_reply target s = cond (eqb (length target) (record_length current)) (lawful_reply s) BufferLength

-- and the target afterwards
abbrev pub written_in : List ℕ → State → List ℕ
written_in target s = cond (eqb (length target) (record_length current)) (cond (lawful_state s) (record_of s) target) target
