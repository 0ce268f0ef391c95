-- The three stages of reading as one test, and what bytes that pass it have met.
use mathlib.Core.Path.{◌≡◌, refl, sym, ap, ◌∙◌}
use mathlib.Core.List.{List}
use mathlib.Core.Bool.{Bool, true, false, cond, ◌&&◌, ◌||◌}
use Prim.Native.Nat.{ℕ, ◌+◌, ◌<◌}
use native.Mathlib.Omega.{arith}
use lib.ListN.{length, get_or}
use lib.Dec.{eqb}
use borrow.Author.Tests.{eqb-true}
use Rattle.lists.proofs.Cond.{if-true, if-false, left-true, right-true}
use Rattle.reply.specs.declared.Reply.TheVariants.{Done, WrongCount, WrongVersion, BadField}
use Rattle.reply.specs.Reply.{is_done}
use Rattle.state.specs.Reset.{reset_state}
use Rattle.record_layout.specs.declared.Judgement.{Judgement}
use Rattle.record_layout.specs.Fields.{pair, field_at}
use Rattle.record_layout.specs.declared.Version.{Version}
use Rattle.record_layout.specs.declared.Version.TheVariants.{Version1, Version2}
use Rattle.record_layout.specs.Version.{version_number}
use Rattle.record_layout.specs.Places.{count_place, version_place}
use Rattle.record_layout.specs.Record.{following, record_length, counted, first_bad, versioned, sound, accepted, state_as, told, passed, judged_version, judged, read_with, read_as}
use Rattle.record_layout.proofs.Whole.{whole_length}

-- bytes that are counted state a version
pub counted-long : (b : List ℕ) → counted b ≡ true → version_place < length b
unfolding counted
counted-long b c = go (eqb n (following Version1)) refl (right-true (eqb (length b) (2 + n)) (eqb n (following Version1) || eqb n (following Version2)) c)
  where
    n : ℕ
    n = field_at pair b count_place

    long : length b ≡ 2 + n
    long = eqb-true _ _ (left-true (eqb (length b) (2 + n)) (eqb n (following Version1) || eqb n (following Version2)) c)

    go : (t : Bool) → eqb n (following Version1) ≡ t → (t || eqb n (following Version2)) ≡ true → version_place < length b
    go true e h = omega (arith, long, eqb-true n (following Version1) e)
    go false e h = omega (arith, long, eqb-true n (following Version2) h)

module _ (v : Version) (b : List ℕ) where
  -- the judgement by its three tests
  abbrev pub staged : Bool → Bool → Bool → Judgement
  staged x y z = cond x (cond y (cond z passed (told BadField (first_bad v b))) (told WrongVersion version_place)) (told WrongCount count_place)

  one-test : (x y z : Bool) → is_done (staged x y z).reply ≡ (x && (y && z))
  one-test true true true = refl
  one-test true true false = refl
  one-test true false z = refl
  one-test false y z = refl

  pub judged-done : is_done (judged v b).reply ≡ accepted v b
  unfolding judged
  judged-done = one-test (counted b) (versioned v b) (sound v b)

  passes : (x y z : Bool) → (x && (y && z)) ≡ true → staged x y z ≡ passed
  passes true true true e = refl
  passes true true false e = absurd (let z : ◌≡◌ {A = ℕ} 0 1 = cc in omega arith)
  passes true false z e = absurd (let z : ◌≡◌ {A = ℕ} 0 1 = cc in omega arith)
  passes false y z e = absurd (let z : ◌≡◌ {A = ℕ} 0 1 = cc in omega arith)

  pub judged-passed : accepted v b ≡ true → judged v b ≡ passed
  unfolding judged
  judged-passed e = passes (counted b) (versioned v b) (sound v b) e

  pub accepts : accepted v b ≡ true → read_as v b ≡ read_with passed (state_as v b)
  accepts e = ap (λ (j : Judgement). read_with j (cond (is_done j.reply) (state_as v b) reset_state)) (judged-passed e)

  pub refuses : accepted v b ≡ false → read_as v b ≡ read_with (judged v b) reset_state
  refuses e = ap (read_with (judged v b)) (if-false (is_done (judged v b).reply) (state_as v b) reset_state (judged-done ∙ e))

  -- a version that is not read here, or is not the one of the length
  pub other-version : counted b ≡ true → versioned v b ≡ false → read_as v b ≡ read_with (told WrongVersion version_place) reset_state
  unfolding judged
  other-version c e =
      let j : judged v b ≡ told WrongVersion version_place = if-true (counted b) (judged_version v b) (told WrongCount count_place) c ∙ if-false (versioned v b) _ _ e in
      ap (λ (j : Judgement). read_with j (cond (is_done j.reply) (state_as v b) reset_state)) j

  pub done-accepted : (read_as v b).reply ≡ Done → accepted v b ≡ true
  done-accepted e = sym judged-done ∙ ap is_done e

  -- the test, and the reply of bytes that fail it, stage by stage
  pub test-count : counted b ≡ false → accepted v b ≡ false
  test-count c = rw c

  pub test-version : counted b ≡ true → versioned v b ≡ false → accepted v b ≡ false
  test-version c e = rw (c, e)

  pub test_fields : counted b ≡ true → versioned v b ≡ true → accepted v b ≡ sound v b
  test_fields c e = rw (c, e)

  pub refused-count : counted b ≡ false → (judged v b).reply ≡ WrongCount
  unfolding judged
  refused-count c = rw c

  pub refused-version : counted b ≡ true → versioned v b ≡ false → (judged v b).reply ≡ WrongVersion
  unfolding judged
  refused-version c e = rw (c, e)

  pub refused-field : counted b ≡ true → versioned v b ≡ true → accepted v b ≡ false → (judged v b).reply ≡ BadField
  unfolding judged
  refused-field c e f =
      ap (λ (j : Judgement). j.reply) (if-true (counted b) _ _ c ∙ if-true (versioned v b) _ _ e ∙ if-false (sound v b) passed (told BadField (first_bad v b)) (sym (test_fields c e) ∙ f))

  -- the length of bytes that are versioned, and the number stated in those that are counted too
  pub versioned-long : versioned v b ≡ true → length b ≡ record_length v
  versioned-long e = eqb-true _ _ (left-true (eqb (length b) (record_length v)) (eqb (get_or b version_place 0) (version_number v)) e)

  pub counted-following : counted b ≡ true → length b ≡ 2 + field_at pair b count_place
  unfolding counted
  counted-following c =
      eqb-true _ _
      (left-true (eqb (length b) (2 + field_at pair b count_place))
      (eqb (field_at pair b count_place) (following Version1) || eqb (field_at pair b count_place) (following Version2)) c)

  -- what accepted bytes have met
  module _ (e : accepted v b ≡ true) where
    pub accepted-counted : counted b ≡ true
    accepted-counted = left-true (counted b) (versioned v b && sound v b) e

    later-stages : (versioned v b && sound v b) ≡ true
    later-stages = right-true (counted b) (versioned v b && sound v b) e

    pub accepted-versioned : versioned v b ≡ true
    accepted-versioned = left-true (versioned v b) (sound v b) later-stages

    pub stated : (field_at pair b count_place ≡ following v) × (length b ≡ 2 + following v)
    stated =
        let l : length b ≡ 2 + following v = versioned-long accepted-versioned ∙ whole_length v in
        (omega (arith, l, counted-following accepted-counted), l)

    pub stated-version : get_or b version_place 0 ≡ version_number v
    stated-version = eqb-true _ _ (right-true (eqb (length b) (record_length v)) (eqb (get_or b version_place 0) (version_number v)) accepted-versioned)

    pub accepted-sound : sound v b ≡ true
    accepted-sound = right-true (versioned v b) (sound v b) later-stages
