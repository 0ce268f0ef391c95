-- The first refusal of any number of pieces: where nothing refuses each is done, and calls of `first_of` within each other give it.
use mathlib.Core.Path.{◌≡◌, refl, sym, ap, ◌∙◌}
use mathlib.Core.List.{List, [], ◌∷◌, ◌++◌}
use mathlib.Core.Bool.{Bool, true, false, cond}
use Rattle.reply.specs.Reply.{is_done}
use Rattle.reply.specs.First.{first_of, first_hit}
use Rattle.reply.specs.declared.Reply.{Reply}
use Rattle.reply.specs.declared.Reply.TheVariants.{Done}
use Rattle.reply.proofs.Done.{is-done, refused}

-- a piece that is done leaves the answer to those after it
pub first_done : (a b : Reply) → is_done a ≡ true → first_of a b ≡ b
unfolding first_of
first_done a b e = ap (λ (x : Bool). cond x b a) e

-- a piece that refuses is the answer
pub first-refused : (a b : Reply) → is_done a ≡ false → first_of a b ≡ a
unfolding first_of
first-refused a b e = ap (λ (x : Bool). cond x b a) e

-- after the last piece nothing refuses
pub last_of : (r : Reply) → first_of r Done ≡ r
last_of r = go (is_done r) refl
  where
    go : (b : Bool) → is_done r ≡ b → first_of r Done ≡ r
    go true e = first_done r Done e ∙ sym (is-done r e)
    go false e = first-refused r Done e

-- where neither of two refuses, both are done
pub both-done : (a b : Reply) → first_of a b ≡ Done → (a ≡ Done) × (b ≡ Done)
both-done a b h = go (is_done a) refl
  where
    go : (x : Bool) → is_done a ≡ x → (a ≡ Done) × (b ≡ Done)
    go true e = (is-done a e, sym (first_done a b e) ∙ h)
    go false e = absurd (refused a e (sym (first-refused a b e) ∙ h))

-- each of a list is done
abbrev pub AllDone : List Reply → Type 0
AllDone [] = Unit {0}
AllDone (r ∷ rs) = (r ≡ Done) × AllDone rs

pub all_done : (rs : List Reply) → first_hit rs ≡ Done → AllDone rs
unfolding first_hit
all_done [] e = tt
all_done (r ∷ rs) e = let b = both-done r (first_hit rs) e in (b.0, all_done rs b.1)

-- the last piece is the innermost call's second, and each other piece goes before those after it
pub last-hit : (r d : Reply) → r ≡ d → r ≡ first_hit (d ∷ [])
unfolding first_hit
last-hit r d e = e ∙ sym (last_of d)

pub next-hit : (r a m d : Reply) (rs : List Reply) → a ≡ d → m ≡ first_hit rs → r ≡ first_of a m → r ≡ first_hit (d ∷ rs)
unfolding first_hit
next-hit r a m d rs e h q = q ∙ ap (λ (x : Reply). first_of x m) e ∙ ap (first_of d) h

-- pieces after which others come: those refuse only where these are done
pub hit_later : (rs ss : List Reply) → first_hit rs ≡ Done → first_hit (rs ++ ss) ≡ first_hit ss
unfolding first_hit
hit_later [] ss e = refl
hit_later (r ∷ rs) ss e =
    let b = both-done r (first_hit rs) e in
    first_done r (first_hit (rs ++ ss)) (ap is_done b.0) ∙ hit_later rs ss b.1

pub hit-early : (rs ss : List Reply) → is_done (first_hit rs) ≡ false → first_hit (rs ++ ss) ≡ first_hit rs
unfolding first_hit
hit-early [] ss e = absurd (refused Done e refl)
hit-early (r ∷ rs) ss e = go (hit-early rs ss) (is_done r) refl
  where
    go : (is_done (first_hit rs) ≡ false → first_hit (rs ++ ss) ≡ first_hit rs) → (b : Bool) → is_done r ≡ b → first_hit (r ∷ rs ++ ss) ≡ first_hit (r ∷ rs)
    go h true d =
        let f = first_done r (first_hit rs) d in
        first_done r (first_hit (rs ++ ss)) d ∙ h (sym (ap is_done f) ∙ e) ∙ sym f
    go h false d = first-refused r (first_hit (rs ++ ss)) d ∙ sym (first-refused r (first_hit rs) d)

-- what holds of a reply that is done and of each piece holds of the first that refuses
abbrev pub Each : (Reply → Type 0) → List Reply → Type 0
Each P [] = Unit {0}
Each P (r ∷ rs) = P r × Each P rs

pub hit-each : (P : Reply → Type 0) (rs : List Reply) → P Done → Each P rs → P (first_hit rs)
unfolding first_hit first_of
hit-each P [] d e = d
hit-each P (r ∷ rs) d e = go (hit-each P rs d e.1) (is_done r)
  where
    go : P (first_hit rs) → (b : Bool) → P (cond b (first_hit rs) r)
    go h true = h
    go h false = e.0
