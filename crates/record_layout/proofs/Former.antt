-- The three stages of reading accept what was accepted while 13 was the one reply for every fault.
use mathlib.Core.Path.{◌≡◌, sym, ap, ◌∙◌}
use mathlib.Core.List.{List, [], ◌∷◌}
use mathlib.Core.Bool.{Bool, true, ◌&&◌, ◌||◌}
use Prim.Native.Nat.{ℕ, ◌+◌}
use native.Mathlib.Omega.{arith}
use lib.ListN.{length, get_or}
use lib.Dec.{eqb}
use borrow.Author.Tests.{eq-eqb, eqb-true}
use Rattle.lists.proofs.Cond.{both}
use Rattle.lists.proofs.Chain.{chain, chain-apart, chain-join}
use Rattle.state.specs.Lawful.{lawful_state}
use Rattle.record_layout.specs.Fields.{pair, field_at}
use Rattle.record_layout.specs.declared.Version.{Version}
use Rattle.record_layout.specs.declared.Version.TheVariants.{Version1, Version2}
use Rattle.record_layout.specs.Version.{version_number}
use Rattle.record_layout.specs.Layout.{is_flag}
use Rattle.record_layout.specs.Places.{count_place, version_place, held_place, plus_on_place}
use Rattle.record_layout.specs.Record.{following, record_length, counted, versioned, sound, accepted, state_as}
use Rattle.record_layout.specs.Claims.{formerly_accepted}
use Rattle.record_layout.proofs.Whole.{whole_length}
use Rattle.record_layout.proofs.Bounds.{same, sound-lawful}
use Rattle.record_layout.proofs.Stages.{stated, stated-version, accepted-sound}

or-known : (v : Version) (n : ℕ) → n ≡ following v → (eqb n (following Version1) || eqb n (following Version2)) ≡ true
or-known Version1 n e = rw (eq-eqb n (following Version1) e)
or-known Version2 n e = rw e

module _ (v : Version) (b : List ℕ) where
  abbrev number : ℕ
  number = field_at pair b count_place

  abbrev lawful : Bool
  lawful = is_flag (get_or b (held_place v) 0) && is_flag (get_or b (plus_on_place v) 0) && lawful_state (state_as v b)

  abbrev tests : List Bool
  tests = eqb number (following v) ∷ eqb (get_or b version_place 0) (version_number v) ∷ lawful ∷ []

  before : accepted v b ≡ true → formerly_accepted v b ≡ true
  before e =
      let s = stated v b e in
      let l : length b ≡ record_length v = s.1 ∙ sym (whole_length v) in
      chain-join (eqb (length b) (2 + number)) tests (eq-eqb (length b) (2 + number) (s.1 ∙ ap (λ (n : ℕ). 2 + n) (sym s.0)))
      (eq-eqb _ _ s.0, (eq-eqb _ _ (stated-version v b e), (sym (sound-lawful v b l) ∙ accepted-sound v b e, tt)))

  after : formerly_accepted v b ≡ true → accepted v b ≡ true
  unfolding counted
  after e =
      let t = chain-apart (eqb (length b) (2 + number)) tests e in
      let n : number ≡ following v = eqb-true _ _ t.1.0 in
      let l : length b ≡ record_length v = omega (arith, eqb-true (length b) (2 + number) t.0, n, whole_length v) in
      both (counted b) (versioned v b && sound v b)
      (both (eqb (length b) (2 + number)) (eqb number (following Version1) || eqb number (following Version2)) t.0 (or-known v number n))
      (both (versioned v b) (sound v b)
      (both (eqb (length b) (record_length v)) (eqb (get_or b version_place 0) (version_number v)) (eq-eqb _ _ l) t.1.1.0)
      (sound-lawful v b l ∙ t.1.1.1.0))

  pub accepted-before : accepted v b ≡ formerly_accepted v b
  accepted-before = same (accepted v b) (formerly_accepted v b) before after
