-- The claims on writing and reading, from the laws of the layout and of reading.
use mathlib.Core.Path.{◌≡◌, refl, sym, ap, ◌∙◌, subst}
use mathlib.Core.Logic.{◌⊎◌, inl, inr}
use mathlib.Core.List.{List, ◌∷◌}
use mathlib.Core.Bool.{Bool, true, false, not}
use Prim.Native.Nat.{ℕ, zero, suc, ◌+◌, ◌*◌, ◌<◌}
use lib.ListN.{length, drop, get_or, set}
use lib.Dec.{eqb, leb}
use borrow.Author.Tests.{eq-eqb, ne_eqb}
use native.Mathlib.Omega.{arith}
use Rattle.lists.specs.Bytes.{Bytes}
use Rattle.lists.proofs.Cond.{if-true}
use Rattle.reply.specs.declared.Reply.TheVariants.{Done, WrongCount, WrongVersion, BadField}
use Rattle.reply.specs.Reply.{is_done}
use Rattle.state.specs.declared.State.{State}
use Rattle.state.specs.Lawful.{lawful_state}
use Rattle.state.specs.Reset.{reset_state}
use Rattle.state.specs.Typed.{Typed}
use Rattle.state.proofs.Claims.{reset_lawful}
use Rattle.register_bounds.specs.Bounds.{half_fits}
use Rattle.record_layout.specs.declared.RecordRead.{RecordRead}
use Rattle.record_layout.specs.Parts.{Part, bad_part, bad}
use Rattle.record_layout.specs.Layout.{palette, layout}
use Rattle.record_layout.specs.Places.{parts_place, held_place, half_place, ula_first_place}
use Rattle.record_layout.specs.declared.Version.{Version}
use Rattle.record_layout.specs.declared.Version.TheVariants.{Version1, Version2}
use Rattle.record_layout.specs.Version.{current, other}
use Rattle.record_layout.specs.Record.{record_in, record_length, version_of, record_of, counted, versioned, first_bad, sound, accepted, state_as, told, passed, judged, read_with, read_as, read_record, write_reply, written_in}
use Rattle.record_layout.specs.Claims.{WrittenReadsBack, ReadWritesBack, IsRecord, ReadsRecords, ReadsKept, ReadsBoth, RefusesOther, OneVersion, ReadLawful, OneState, LengthOfRecord, JudgementTells, RefusedAsBefore, PlaceIsLeast, BadAtTheirPlaces, MendedGoesOn, SoundIsLawful, PlacesAreSums}
use Rattle.record_layout.proofs.Whole.{whole_length, fits, record-length, state-whole}
use Rattle.record_layout.proofs.Parts.{place_of}
use Rattle.record_layout.proofs.Walk.{place_found}
use Rattle.record_layout.proofs.BadAt.{bad-within, palette-high, palette-low}
use Rattle.record_layout.proofs.Bounds.{sound-lawful}
use Rattle.record_layout.proofs.Stages.{staged, judged-done, accepts, refuses, other-version, done-accepted, accepted-counted}
use Rattle.record_layout.proofs.Types.{state-typed}
use Rattle.record_layout.proofs.RoundTrip.{record-accepted, record-read, version-told, long, state-lawful, same_bytes}
use Rattle.record_layout.proofs.Former.{accepted-before}
use Rattle.record_layout.proofs.Told.{bad-field, last-stage}
use Rattle.record_layout.proofs.Mended.{still-counted, still-versioned, later-place}

pub length_of_record : LengthOfRecord
length_of_record v = (whole_length v, λ s z. record-length v s (fits v s z))

pub sound_is_lawful : SoundIsLawful
sound_is_lawful = sound-lawful

pub places_are_sums : PlacesAreSums
places_are_sums Version1 = refl
places_are_sums Version2 = refl

pub one_state : OneState
one_state v s t y z e = sym (state-whole v s (fits v s y)) ∙ ap (state_as v) e ∙ state-whole v t (fits v t z)

pub reads_kept : ReadsKept
reads_kept v s z h = record-read s z v h

-- reading bytes of either version is reading them as those of their own
pub read_told : (v : Version) (b : List ℕ) → length b ≡ record_length v → read_record b ≡ read_as v b
unfolding read_record
read_told v b l = ap (λ (w : Version). read_as w b) (version-told v (length b) l)

-- a lawful state is written
pub write_done : (target : List ℕ) (s : State) → length target ≡ record_length current → lawful_state s ≡ true → (write_reply target s ≡ Done) × (written_in target s ≡ record_of s)
write_done target s l h =
    let e : eqb (length target) (record_length current) ≡ true = eq-eqb (length target) (record_length current) l in (
      if-true (eqb (length target) (record_length current)) _ _ e ∙ if-true (lawful_state s) _ _ h,
      if-true (eqb (length target) (record_length current)) _ _ e ∙ if-true (lawful_state s) _ _ h,
    )

-- the record of a lawful state is read as that state
pub current-read : (s : State) → Typed s → lawful_state s ≡ true → read_record (record_of s) ≡ read_with passed s
unfolding record_of
current-read s z h = read_told current (record_in current s) (record-length current s (fits current s z)) ∙ record-read s z current h

pub written_reads_back : WrittenReadsBack
written_reads_back s target z h l =
    let w = write_done target s l h in (w.0, ap read_record w.1 ∙ current-read s z h)

-- a state that reading can give: what holds of the state in accepted bytes and of the reset state holds of it
module _ (v : Version) (b : List ℕ) where
  given : (P : State → Type 0) → (accepted v b ≡ true → P (state_as v b)) → P reset_state → P (read_as v b).state
  given P h k = go (accepted v b) refl
    where
      go : (t : Bool) → accepted v b ≡ t → P (read_as v b).state
      go true e = subst P (sym (ap (λ (r : RecordRead). r.state) (accepts v b e))) (h e)
      go false e = subst P (sym (ap (λ (r : RecordRead). r.state) (refuses v b e))) k

pub read_lawful : ReadLawful
read_lawful v b y = (
  given v b (λ s. lawful_state s ≡ true) (state-lawful v b) reset_lawful.0,
  given v b Typed (λ e. state-typed b y v) reset_lawful.1,
)

-- bytes that are read as a record of a version are the record of the state in them
pub read-record : (v : Version) (b : List ℕ) → Bytes b → (read_as v b).reply ≡ Done → record_in v (read_as v b).state ≡ b
read-record v b y e =
    let a = done-accepted v b e in ap (λ (r : RecordRead). record_in v r.state) (accepts v b a) ∙ same_bytes v b a y

pub read_writes_back : ReadWritesBack
unfolding record_of
read_writes_back b target y e l =
    let r = read_told current b (long current b (done-accepted current b e)) in
    let w = write_done target (read_record b).state l (ap (λ (a : RecordRead). lawful_state a.state) r ∙ (read_lawful current b y).0) in
    (w.0, w.1 ∙ ap (λ (a : RecordRead). record_of a.state) r ∙ read-record current b y e)

module _ (v : Version) (b : List ℕ) where
  -- the bytes of a record are accepted, and accepted bytes are a record
  pub record-taken : IsRecord v b → accepted v b ≡ true
  record-taken r = ap (accepted v) (sym r.3) ∙ record-accepted r.0 r.1 v r.2

  pub taken-record : Bytes b → accepted v b ≡ true → IsRecord v b
  taken-record y e = (state_as v b, state-typed b y v, state-lawful v b e, same_bytes v b e y)

-- bytes that are no record are refused, with the reset state
none-refused : (v : Version) (b : List ℕ) → Bytes b → (IsRecord v b → ⊥) → (is_done (read_as v b).reply ≡ false) × ((read_as v b).state ≡ reset_state)
none-refused v b y n = go (accepted v b) refl
  where
    go : (t : Bool) → accepted v b ≡ t → (is_done (read_as v b).reply ≡ false) × ((read_as v b).state ≡ reset_state)
    go true e = absurd (n (taken-record v b y e))
    go false e = (judged-done v b ∙ e, ap (λ (r : RecordRead). r.state) (refuses v b e))

pub reads_records : ReadsRecords
reads_records v b y = (
  ((λ e. taken-record v b y (done-accepted v b e)), (λ r. ap (λ (a : RecordRead). a.reply) (accepts v b (record-taken v b r)))),
  none-refused v b y,
)

pub reads_both : ReadsBoth
unfolding read_record
reads_both b y = (
  (λ v r. read_told v b (long v b (record-taken v b r))),
  (λ n. let v = version_of (length b) in none-refused v b y (n v)),
)

-- bytes as long as a record of the other version
longer : (v : Version) (b : List ℕ) → length b ≡ record_length (other v) → versioned v b ≡ false
longer Version1 b l = rw (ne_eqb (length b) (record_length Version1) (λ e. omega (arith, l, e)))
longer Version2 b l = rw (ne_eqb (length b) (record_length Version2) (λ e. omega (arith, l, e)))

pub refuses_other : RefusesOther
refuses_other v b r =
    let a = record-taken (other v) b r in
    other-version v b (accepted-counted (other v) b a) (longer v b (long (other v) b a))

pub one_version : OneVersion
one_version v w b r t =
    sym (version-told v (length b) (long v b (record-taken v b r))) ∙ version-told w (length b) (long w b (record-taken w b t))

pub judgement_tells : JudgementTells
unfolding judged
judgement_tells v b = go (counted b) (versioned v b) (sound v b)
  where
    go : (x y z : Bool) → let j = staged v b x y z in
        (j ≡ told Done 0) ⊎ ((j ≡ told WrongCount 0) ⊎ ((j ≡ told WrongVersion 2) ⊎ (j ≡ told BadField (first_bad v b))))
    go true true true = inl refl
    go true true false = inr (inr (inr refl))
    go true false z = inr (inr (inl refl))
    go false y z = inr (inl refl)

pub refused_as_before : RefusedAsBefore
unfolding read_record
refused_as_before b = ((λ v. judged-done v b ∙ accepted-before v b), judged-done (version_of (length b)) b ∙ accepted-before (version_of (length b)) b)

pub place_is_least : PlaceIsLeast
place_is_least v b e =
    let q = bad-field v b e in
    let f = place_found v b q.long in
    rw q.place (record { inside = q.inside; here = f.here q.inside; before = f.before })

-- the n-th part of a layout is a palette at a place
module _ (v : Version) (b : List ℕ) (n at : ℕ) (field : State → List ℕ) (rest : List Part) (d : drop n (layout v) ≡ palette field ∷ rest) (e : place_of n (layout v) parts_place ≡ at) (i : ℕ) (l : i < 256) where
  colour-high : Bytes b → bad (layout v) b parts_place (at + 2 * i) ≡ not (leb (get_or b (at + 2 * i) 0) 1)
  colour-high y =
      bad-within n (layout v) rest (palette field) b parts_place (at + 2 * i) d (omega (arith, e)) (omega (arith, e, l))
      ∙ ap (λ (k : ℕ). bad_part (palette field) b k (at + 2 * i)) e ∙ palette-high field b at i l y

  colour-low : bad (layout v) b parts_place (at + 2 * i + 1) ≡ false
  colour-low =
      bad-within n (layout v) rest (palette field) b parts_place (at + 2 * i + 1) d (omega (arith, e)) (omega (arith, e, l))
      ∙ ap (λ (k : ℕ). bad_part (palette field) b k (at + 2 * i + 1)) e ∙ palette-low field b at i l

-- the four palettes of each version
stands : (v : Version) (j : ℕ) → j < 4
    → (n : ℕ) × (field : State → List ℕ) × (rest : List Part) × (drop n (layout v) ≡ palette field ∷ rest) × (place_of n (layout v) parts_place ≡ ula_first_place v + 512 * j)
stands Version1 zero l = (30, (λ s. s.ulafirst), drop 31 (layout Version1), refl, refl)
stands Version1 (suc zero) l = (31, (λ s. s.ulasecond), drop 32 (layout Version1), refl, refl)
stands Version1 (suc (suc zero)) l = (32, (λ s. s.tilefirst), drop 33 (layout Version1), refl, refl)
stands Version1 (suc (suc (suc zero))) l = (33, (λ s. s.tilesecond), drop 34 (layout Version1), refl, refl)
stands Version2 zero l = (32, (λ s. s.ulafirst), drop 33 (layout Version2), refl, refl)
stands Version2 (suc zero) l = (33, (λ s. s.ulasecond), drop 34 (layout Version2), refl, refl)
stands Version2 (suc (suc zero)) l = (34, (λ s. s.tilefirst), drop 35 (layout Version2), refl, refl)
stands Version2 (suc (suc (suc zero))) l = (35, (λ s. s.tilesecond), drop 36 (layout Version2), refl, refl)
stands Version1 (suc (suc (suc (suc j)))) l = absurd (omega (arith, l))
stands Version2 (suc (suc (suc (suc j)))) l = absurd (omega (arith, l))

half-stands : (v : Version) (b : List ℕ) → bad (layout v) b parts_place (half_place v) ≡ not (half_fits (eqb (get_or b (held_place v) 0) 1) (get_or b (half_place v) 0))
half-stands Version1 b = bad-within 23 (layout Version1) _ _ b parts_place (half_place Version1) refl (omega arith) (omega arith)
half-stands Version2 b = bad-within 25 (layout Version2) _ _ b parts_place (half_place Version2) refl (omega arith) (omega arith)

pub bad_at_their_places : BadAtTheirPlaces
bad_at_their_places v b y = record {
  high = λ j i m l. let s = stands v j m in colour-high v b s.0 (ula_first_place v + 512 * j) s.1 s.2 s.3 s.4 i l y;
  low = λ j i m l. let s = stands v j m in colour-low v b s.0 (ula_first_place v + 512 * j) s.1 s.2 s.3 s.4 i l;
  half = half-stands v b;
}

pub mended_goes_on : MendedGoesOn
mended_goes_on v b x e z =
    last-stage v (set b (read_as v b).place x) (read_as v b).place (still-counted v b x e) (still-versioned v b x e) (later-place v b x e z)
