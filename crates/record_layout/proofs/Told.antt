-- The place that a judgement tells: with 18 it is that of the first bad field, and always one of the record's.
use mathlib.Core.Path.{◌≡◌, refl, sym, ap, ◌∙◌}
use mathlib.Core.Logic.{◌⊎◌, inl, inr}
use mathlib.Core.List.{List}
use mathlib.Core.Bool.{Bool, true, false}
use Prim.Native.Nat.{ℕ, ◌+◌, ◌≤◌, ◌<◌}
use native.Mathlib.Omega.{arith}
use lib.ListN.{length}
use borrow.Author.Tests.{eqb-false}
use Rattle.reply.specs.declared.Reply.{Reply}
use Rattle.reply.specs.declared.Reply.TheVariants.{Done, WrongVersion, BadField}
use Rattle.reply.specs.Reply.{reply_number}
use Rattle.record_layout.specs.Parts.{sizes}
use Rattle.record_layout.specs.declared.Version.{Version}
use Rattle.record_layout.specs.declared.Version.TheVariants.{Version1, Version2}
use Rattle.record_layout.specs.Layout.{layout}
use Rattle.record_layout.specs.Places.{parts_place}
use Rattle.record_layout.specs.Record.{record_length, counted, versioned, first_bad, sound, judged, read_as}
use Rattle.record_layout.proofs.Walk.{place_found}
use Rattle.record_layout.proofs.Whole.{whole_length}
use Rattle.record_layout.proofs.Stages.{staged, versioned-long}

versioned-whole : (v : Version) (b : List ℕ) → versioned v b ≡ true → length b ≡ parts_place + sizes (layout v)
versioned-whole v b e = omega (arith, versioned-long v b e, whole_length v)

-- what bytes that are refused by 18 have met: the first two stages, the length, the place told, and that it is one of theirs
pub record Bad (v : Version) (b : List ℕ) : Type 0 where
  pub counts : counted b ≡ true
  pub versions : versioned v b ≡ true
  pub long : length b ≡ parts_place + sizes (layout v)
  pub place : (read_as v b).place ≡ first_bad v b
  pub inside : first_bad v b < length b

-- the judgement by its three tests, where it is 18
stages-bad : (v : Version) (b : List ℕ) (x y z : Bool) → (staged v b x y z).reply ≡ BadField
    → (x ≡ true) × (y ≡ true) × (z ≡ false) × ((staged v b x y z).place ≡ first_bad v b)
stages-bad v b true true false e = (refl, refl, refl, refl)
stages-bad v b true true true e = absurd (let n : ◌≡◌ {A = ℕ} 0 18 = ap reply_number e in omega arith)
stages-bad v b true false z e = absurd (let n : ◌≡◌ {A = ℕ} 17 18 = ap reply_number e in omega arith)
stages-bad v b false y z e = absurd (let n : ◌≡◌ {A = ℕ} 16 18 = ap reply_number e in omega arith)

pub bad-field : (v : Version) (b : List ℕ) → (read_as v b).reply ≡ BadField → Bad v b
unfolding judged
bad-field v b e =
    let s = stages-bad v b (counted b) (versioned v b) (sound v b) e in
    let l = versioned-whole v b s.1 in
    record {
      counts = s.0;
      versions = s.1;
      long = l;
      place = s.3;
      inside = omega (arith, (place_found v b l).inside-or-end, eqb-false (first_bad v b) (length b) s.2);
    }

-- bytes that pass the first two stages are accepted, or refused at their first bad field
pub last-stage : (v : Version) (b : List ℕ) (k : ℕ) → counted b ≡ true → versioned v b ≡ true → k < first_bad v b
    → ((read_as v b).reply ≡ Done) ⊎ (((read_as v b).reply ≡ BadField) × (k < (read_as v b).place))
unfolding judged
last-stage v b k c e l = rw (c, e) (go (sound v b))
  where
    go : (z : Bool) → ((staged v b true true z).reply ≡ Done) ⊎ (((staged v b true true z).reply ≡ BadField) × (k < (staged v b true true z).place))
    go true = inl refl
    go false = inr (refl, l)

-- no place that is told is past the longer record's end
length-small : (v : Version) → record_length v ≤ 2152
length-small Version1 = omega arith
length-small Version2 = omega arith

pub place-small : (v : Version) (b : List ℕ) → (judged v b).place ≤ 2152
unfolding judged
place-small v b = go (counted b) (versioned v b) refl (sound v b)
  where
    go : (x y : Bool) → versioned v b ≡ y → (z : Bool) → (staged v b x y z).place ≤ 2152
    go true true e true = omega arith
    go true true e false = omega (arith, (place_found v b (versioned-whole v b e)).inside-or-end, versioned-long v b e, length-small v)
    go true false e z = omega arith
    go false y e z = omega arith

-- the place by the reply: a bad field's, the version's, and 0 for any other
module _ (v : Version) (b : List ℕ) (r : Reply) (e : r ≡ (judged v b).reply) where
  pub told-field : r ≡ BadField → Bad v b
  told-field h = bad-field v b (sym e ∙ h)

  pub told-version : r ≡ WrongVersion → 2 ≡ (judged v b).place
  unfolding judged
  told-version h = go (counted b) (versioned v b) (sound v b) (sym e ∙ h)
    where
      go : (x y z : Bool) → (staged v b x y z).reply ≡ WrongVersion → 2 ≡ (staged v b x y z).place
      go true true true q = absurd (let n : ◌≡◌ {A = ℕ} 0 17 = ap reply_number q in omega arith)
      go true true false q = absurd (let n : ◌≡◌ {A = ℕ} 18 17 = ap reply_number q in omega arith)
      go true false z q = refl
      go false y z q = absurd (let n : ◌≡◌ {A = ℕ} 16 17 = ap reply_number q in omega arith)

  pub told-else : (r ≡ BadField → ⊥) → (r ≡ WrongVersion → ⊥) → 0 ≡ (judged v b).place
  unfolding judged
  told-else h k = go (counted b) (versioned v b) (sound v b) (λ q. h (e ∙ q)) (λ q. k (e ∙ q))
    where
      go : (x y z : Bool) → ((staged v b x y z).reply ≡ BadField → ⊥) → ((staged v b x y z).reply ≡ WrongVersion → ⊥) → 0 ≡ (staged v b x y z).place
      go true true true p q = refl
      go true true false p q = absurd (p refl)
      go true false z p q = absurd (q refl)
      go false y z p q = refl
