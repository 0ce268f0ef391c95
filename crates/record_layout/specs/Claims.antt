-- Rules 1.4, 1.5, 7.4, 7.5, 7.9, 7.13, 7.14, 9.13 and 9.17: what holds of writing and reading together, once over the versions. `Typed` and `Bytes` are what the
-- types of a call's arguments give.
use Rattle.std.specs.Prelude.{◌≡◌, ◌↔◌, ◌⊎◌, List, Bool, true, false, not, ◌&&◌, ℕ, ◌+◌, ◌*◌, ◌<◌, length, get_or, set, eqb, leb}
use Rattle.lists.specs.Bytes.{Bytes}
use Rattle.reply.specs.declared.Reply.TheVariants.{Done, WrongCount, WrongVersion, BadField}
use Rattle.reply.specs.Reply.{is_done}
use Rattle.register_bounds.specs.Bounds.{half_fits}
use Rattle.state.specs.declared.State.{State}
use Rattle.state.specs.Lawful.{lawful_state}
use Rattle.state.specs.Reset.{reset_state}
use Rattle.state.specs.Typed.{Typed}
use Rattle.record_layout.specs.declared.Version.{Version}
use Rattle.record_layout.specs.Fields.{pair, field_at}
use Rattle.record_layout.specs.Parts.{places, bad}
use Rattle.record_layout.specs.Version.{version_number, current, other, kept_in}
use Rattle.record_layout.specs.Layout.{layout, is_flag}
use Rattle.record_layout.specs.Places.{count_place, version_place, parts_place, held_place, half_place, plus_on_place, ula_first_place, named_places}
use Rattle.record_layout.specs.Record.{record_in, record_length, version_of, following, first_bad, sound, state_as, told, passed, judged, read_with, read_as, read_record, read_current, write_reply, written_in}

-- a lawful state that is written reads back as the same state
abbrev pub WrittenReadsBack : Type 0
WrittenReadsBack = (s : State) (target : List ℕ) → Typed s → lawful_state s ≡ true → length target ≡ record_length current
    → (write_reply target s ≡ Done) × (read_record (written_in target s) ≡ read_with passed s)

-- bytes that are read as a record of version 2 write back as the same bytes
abbrev pub ReadWritesBack : Type 0
ReadWritesBack = (b target : List ℕ) → Bytes b → (read_current b).reply ≡ Done → length target ≡ record_length current
    → (write_reply target (read_record b).state ≡ Done) × (written_in target (read_record b).state ≡ b)

-- bytes are the record of a lawful state in a version
abbrev pub IsRecord : Version → List ℕ → Type 0
IsRecord v b = (s : State) × Typed s × (lawful_state s ≡ true) × (record_in v s ≡ b)

-- the reader of a version accepts the records of lawful states in it, and gives the reset state of all other bytes
abbrev pub ReadsRecords : Type 0
ReadsRecords = (v : Version) (b : List ℕ) → Bytes b
    → ((read_as v b).reply ≡ Done ↔ IsRecord v b) × ((IsRecord v b → ⊥) → (is_done (read_as v b).reply ≡ false) × ((read_as v b).state ≡ reset_state))

-- and gives what the version keeps of the state: a state of version 1 as if it were moved up
abbrev pub ReadsKept : Type 0
ReadsKept = (v : Version) (s : State) → Typed s → lawful_state s ≡ true → read_as v (record_in v s) ≡ read_with passed (kept_in v s)

-- the reader of version 2 reads a record of either version as the reader of that version does, and gives the reset state of all other
-- bytes
abbrev pub ReadsBoth : Type 0
ReadsBoth = (b : List ℕ) → Bytes b
    → ((v : Version) → IsRecord v b → read_record b ≡ read_as v b)
    × (((v : Version) → IsRecord v b → ⊥) → (is_done (read_record b).reply ≡ false) × ((read_record b).state ≡ reset_state))

-- the reader of a version refuses a record of the other one by 17
abbrev pub RefusesOther : Type 0
RefusesOther = (v : Version) (b : List ℕ) → IsRecord (other v) b → read_as v b ≡ read_with (told WrongVersion 2) reset_state

-- no bytes are a record of both versions
abbrev pub OneVersion : Type 0
OneVersion = (v w : Version) (b : List ℕ) → IsRecord v b → IsRecord w b → v ≡ w

-- the state that reading gives is lawful, and of its types: that of an accepted record as the reset state of a refusal
abbrev pub ReadLawful : Type 0
ReadLawful = (v : Version) (b : List ℕ) → Bytes b → (lawful_state (read_as v b).state ≡ true) × Typed (read_as v b).state

-- a record is the record of one state only, of what its version keeps
abbrev pub OneState : Type 0
OneState = (v : Version) (s t : State) → Typed s → Typed t → record_in v s ≡ record_in v t → kept_in v s ≡ kept_in v t

-- a record is as many bytes as its version says, and the number in it is two less
abbrev pub LengthOfRecord : Type 0
LengthOfRecord = (v : Version) → (record_length v ≡ 2 + following v) × ((s : State) → Typed s → length (record_in v s) ≡ record_length v)

-- what a judgement tells: nothing where it passes; 16 at the number, 17 at the version, 18 at the first bad field
abbrev pub JudgementTells : Type 0
JudgementTells = (v : Version) (b : List ℕ)
    → (judged v b ≡ told Done 0) ⊎ ((judged v b ≡ told WrongCount 0) ⊎ ((judged v b ≡ told WrongVersion 2) ⊎ (judged v b ≡ told BadField (first_bad v b))))

-- bytes that 13 did not refuse, while it was the one reply for every fault: the stated number and the version are those of v, and the state in them
-- is lawful
abbrev pub formerly_accepted : Version → List ℕ → Bool
formerly_accepted v b =
    let n = field_at pair b count_place in
    eqb (length b) (2 + n) && eqb n (following v) && eqb (get_or b version_place 0) (version_number v)
    && (is_flag (get_or b (held_place v) 0) && is_flag (get_or b (plus_on_place v) 0) && lawful_state (state_as v b))

-- refused now exactly where 13 refused: by the reader of each version, and by the one that takes both
abbrev pub RefusedAsBefore : Type 0
RefusedAsBefore = (b : List ℕ)
    → ((v : Version) → is_done (read_as v b).reply ≡ formerly_accepted v b) × (is_done (read_record b).reply ≡ formerly_accepted (version_of (length b)) b)

-- the least place of the bytes at which a field starts that is out of its bound
pub record LeastBad (v : Version) (b : List ℕ) (k : ℕ) : Type 0 where
  pub inside : k < length b
  pub here : bad (layout v) b parts_place k ≡ true
  pub before : (j : ℕ) → j < k → bad (layout v) b parts_place j ≡ false

-- it is the place that 18 tells
abbrev pub PlaceIsLeast : Type 0
PlaceIsLeast = (v : Version) (b : List ℕ) → (read_as v b).reply ≡ BadField → LeastBad v b (read_as v b).place

-- where bad fields stand: of a palette, the colours whose high byte is above 1, at that byte, and none at a low byte; a byte that is not 0 while none
-- is held, at its own place
pub record BadStands (v : Version) (b : List ℕ) : Type 0 where
  pub high : (j i : ℕ) → j < 4 → i < 256 → let k = ula_first_place v + 512 * j + 2 * i in bad (layout v) b parts_place k ≡ not (leb (get_or b k 0) 1)
  pub low : (j i : ℕ) → j < 4 → i < 256 → let k = ula_first_place v + 512 * j + 2 * i in bad (layout v) b parts_place (k + 1) ≡ false
  pub half : bad (layout v) b parts_place (half_place v) ≡ not (half_fits (eqb (get_or b (held_place v) 0) 1) (get_or b (half_place v) 0))

abbrev pub BadAtTheirPlaces : Type 0
BadAtTheirPlaces = (v : Version) (b : List ℕ) → Bytes b → BadStands v b

-- a record with that byte mended, so that no bad field starts there, is accepted or is refused at a later place
abbrev pub MendedGoesOn : Type 0
MendedGoesOn = (v : Version) (b : List ℕ) (x : ℕ) → (read_as v b).reply ≡ BadField
    → let k = (read_as v b).place in
    let c = set b k x in
    bad (layout v) c parts_place k ≡ false → ((read_as v c).reply ≡ Done) ⊎ (((read_as v c).reply ≡ BadField) × (k < (read_as v c).place))

-- no place is bad exactly where held and ULAplus on are 0 or 1 and the state is lawful
abbrev pub SoundIsLawful : Type 0
SoundIsLawful = (v : Version) (b : List ℕ) → length b ≡ record_length v
    → sound v b ≡ (is_flag (get_or b (held_place v) 0) && is_flag (get_or b (plus_on_place v) 0) && lawful_state (state_as v b))

-- the places that have names are those of the parts, each the sum of the widths before it
abbrev pub PlacesAreSums : Type 0
PlacesAreSums = (v : Version) → named_places v ≡ places (layout v) parts_place
