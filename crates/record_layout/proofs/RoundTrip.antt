-- Reading what was written gives the state that the version keeps, and a record that is read is the record of its state.
use mathlib.Core.Path.{◌≡◌, refl, sym, ap, ◌∙◌}
use mathlib.Core.List.{List, [], ◌∷◌, ◌++◌}
use mathlib.Core.Bool.{Bool, true, false, ◌&&◌}
use Prim.Native.Nat.{ℕ, ◌+◌, ◌≤◌}
use native.Mathlib.Omega.{arith}
use lib.ListN.{length, drop, get_or}
use borrow.Author.Tests.{eq-eqb, ne_eqb}
use Rattle.lists.specs.Bytes.{Bytes}
use Rattle.lists.proofs.Cond.{left-true, right-true, if-true, if-false}
use Rattle.state.specs.declared.State.{State}
use Rattle.state.specs.Lawful.{lawful_state}
use Rattle.state.specs.Typed.{Typed}
use Rattle.state.proofs.Kept.{lawful-kept, kept-lawful}
use Rattle.record_layout.specs.declared.Version.{Version}
use Rattle.record_layout.specs.declared.Version.TheVariants.{Version1, Version2}
use Rattle.record_layout.specs.Fields.{byte, pair, field_at, flag_byte, row_bytes}
use Rattle.record_layout.specs.Parts.{bytes_of}
use Rattle.record_layout.specs.Version.{version_number, kept_in}
use Rattle.record_layout.specs.Layout.{is_flag, layout}
use Rattle.record_layout.specs.Places.{count_place, version_place, parts_place, held_place, plus_on_place}
use Rattle.record_layout.specs.Record.{following, head_of, record_in, record_length, version_of, counted, versioned, sound, accepted, state_as, passed, read_with, read_as}
use Rattle.record_layout.proofs.Fields.{seam, row-length}
use Rattle.record_layout.proofs.Parts.{bytes_back}
use Rattle.record_layout.proofs.Whole.{whole_length, fits, record-length, state-whole, bytes_whole}
use Rattle.record_layout.proofs.Bounds.{sound-lawful}
use Rattle.record_layout.proofs.Stages.{accepts, stated, stated-version, accepted-sound}

-- what stands after the two clips
past-clips : (s : State) → Typed s → (ys : List ℕ) (k : ℕ) → get_or (row_bytes byte s.ulaclip ++ (row_bytes byte s.tileclip ++ ys)) (4 + (4 + k)) 0 ≡ get_or ys k 0
past-clips s z ys k =
    seam (row_bytes byte s.ulaclip) (row_bytes byte s.tileclip ++ ys) 4 (4 + k) (omega (arith, row-length byte s.ulaclip, z.ulaclip.long))
    ∙ seam (row_bytes byte s.tileclip) ys 4 k (omega (arith, row-length byte s.tileclip, z.tileclip.long))

flag-bound : (f : Bool) → is_flag (flag_byte f) ≡ true
flag-bound true = refl
flag-bound false = refl

both : {a b : Bool} → a ≡ true → b ≡ true → (a && b) ≡ true
both e f = cc

-- what a version keeps of a lawful state is lawful
kept_in_lem : (v : Version) (s : State) → lawful_state s ≡ true → lawful_state (kept_in v s) ≡ true
kept_in_lem Version1 s h = let k = lawful-kept s h in kept-lawful (kept_in Version1 s) (record {
  ulay = k.loresy;
  loresy = k.loresy;
  ulacontrol = k.ulacontrol;
  mask = k.mask;
  choice = k.choice;
  half = k.half;
  tiletransparent = k.tiletransparent;
  tilecontrol = k.tilecontrol;
  xhigh = k.xhigh;
  map = k.map;
  definitions = k.definitions;
  ulaturn = k.ulaturn;
  tileturn = k.tileturn;
  border = k.border;
  select = k.select;
  ulafirst = k.ulafirst;
  ulasecond = k.ulasecond;
  tilefirst = k.tilefirst;
  tilesecond = k.tilesecond;
})
kept_in_lem Version2 s h = h

module _ (s : State) (z : Typed s) where
  held_place_lem : (v : Version) → get_or (record_in v s) (held_place v) 0 ≡ flag_byte s.palette.held
  held_place_lem Version1 = past-clips s z _ 2
  held_place_lem Version2 = past-clips s z _ 2

  plus-place : (v : Version) → get_or (record_in v s) (plus_on_place v) 0 ≡ flag_byte s.ports.plus
  plus-place Version1 = past-clips s z _ 7
  plus-place Version2 = past-clips s z _ 7

  record-counted : (v : Version) → counted (record_in v s) ≡ true
  unfolding counted
  record-counted Version1 = rw (record-length Version1 s (fits Version1 s z))
  record-counted Version2 = rw (record-length Version2 s (fits Version2 s z))

  record-versioned : (v : Version) → versioned v (record_in v s) ≡ true
  record-versioned Version1 = rw (record-length Version1 s (fits Version1 s z))
  record-versioned Version2 = rw (record-length Version2 s (fits Version2 s z))

  module _ (v : Version) (h : lawful_state s ≡ true) where
    record-sound : sound v (record_in v s) ≡ true
    record-sound =
        let e : sound v (record_in v s) ≡ (is_flag (get_or (record_in v s) (held_place v) 0) && is_flag (get_or (record_in v s) (plus_on_place v) 0) && lawful_state (state_as v (record_in v s))) = sound-lawful v (record_in v s) (record-length v s (fits v s z)) in
        e ∙ rw (held_place_lem v, plus-place v, state-whole v s (fits v s z), flag-bound s.palette.held, flag-bound s.ports.plus, kept_in_lem v s h)

    pub record-accepted : accepted v (record_in v s) ≡ true
    record-accepted = both (record-counted v) (both (record-versioned v) record-sound)

    pub record-read : read_as v (record_in v s) ≡ read_with passed (kept_in v s)
    record-read = accepts v (record_in v s) record-accepted ∙ ap (read_with passed) (state-whole v s (fits v s z))

-- the version of a record is told by its length
pub version-told : (v : Version) (n : ℕ) → n ≡ record_length v → version_of n ≡ v
version-told Version1 n e = if-true _ _ _ (eq-eqb n (record_length Version1) e)
version-told Version2 n e = if-false _ _ _ (ne_eqb n (record_length Version1) (λ f. omega arith))

front : (b : List ℕ) (x y v : ℕ) → 3 ≤ length b → get_or b 0 0 ≡ x → get_or b 1 0 ≡ y → get_or b 2 0 ≡ v → x ∷ y ∷ v ∷ drop 3 b ≡ b
front [] x y v l e f g = absurd (omega arith)
front (a ∷ []) x y v l e f g = absurd (omega arith)
front (a ∷ c ∷ []) x y v l e f g = absurd (omega arith)
front (a ∷ c ∷ d ∷ b) x y v l e f g = rw (e, f, g)

-- the head is read from the number and the version
head_read : (v : Version) (b : List ℕ) → Bytes b → length b ≡ record_length v → field_at pair b count_place ≡ following v → get_or b version_place 0 ≡ version_number v
    → head_of v ++ drop parts_place b ≡ b
head_read Version1 b y l n e = let low = y 1 in front b 8 100 1 (omega (arith, l)) (omega arith) (omega arith) e
head_read Version2 b y l n e = let low = y 1 in front b 8 102 2 (omega (arith, l)) (omega arith) (omega arith) e

-- what bytes that are accepted have met
module _ (v : Version) (b : List ℕ) (e : accepted v b ≡ true) where
  pub long : length b ≡ record_length v
  long = (stated v b e).1 ∙ sym (whole_length v)

  bounds : (is_flag (get_or b (held_place v) 0) && is_flag (get_or b (plus_on_place v) 0) && lawful_state (state_as v b)) ≡ true
  bounds = sym (sound-lawful v b long) ∙ accepted-sound v b e

  flags : (is_flag (get_or b (held_place v) 0) && is_flag (get_or b (plus_on_place v) 0)) ≡ true
  flags = left-true (is_flag (get_or b (held_place v) 0) && is_flag (get_or b (plus_on_place v) 0)) (lawful_state (state_as v b)) bounds

  pub state-lawful : lawful_state (state_as v b) ≡ true
  state-lawful = right-true (is_flag (get_or b (held_place v) 0) && is_flag (get_or b (plus_on_place v) 0)) (lawful_state (state_as v b)) bounds

  -- a record that is read is the record of its state
  pub same_bytes : Bytes b → record_in v (state_as v b) ≡ b
  same_bytes y =
      let held = left-true (is_flag (get_or b (held_place v) 0)) (is_flag (get_or b (plus_on_place v) 0)) flags in
      let plus = right-true (is_flag (get_or b (held_place v) 0)) (is_flag (get_or b (plus_on_place v) 0)) flags in
      let body : bytes_of (layout v) (state_as v b) ≡ drop parts_place b = bytes_whole v b held plus ∙ bytes_back (layout v) b parts_place y (omega (arith, (stated v b e).1)) in
      ap (λ (l : List ℕ). head_of v ++ l) body ∙ head_read v b y long (stated v b e).0 (stated-version v b e)
