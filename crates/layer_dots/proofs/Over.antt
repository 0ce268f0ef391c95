-- Three dots laid over each other by their numbers are the layered dot: transparent is the least number, a priority dot the greatest,
-- and what is laid has no bit 9. By where Layer 2 is among the three, then by the six orders.
use Prim.Native.Nat.{ℕ, zero, suc, ◌+◌, ◌-◌, ◌/◌, ◌%◌, ◌≤◌, ◌<◌}
use mathlib.Core.Path.{◌≡◌, refl, ap, ◌∙◌}
use mathlib.Core.Bool.{Bool, true, false, cond, ◌&&◌, ◌||◌}
use native.Mathlib.Omega.{arith}
use lib.Dec.{eqb, leb, ltb}
use borrow.Author.Tests.{eqb-true, eqb-false, ltb-false, leb-true, lt-ltb, le-ltb}
use Rattle.lists.proofs.Cond.{if-true, if-false, either}
use Rattle.lists.proofs.Search.{not-both}
use Rattle.surface.specs.Dots.{top_dot}
use Rattle.line_dots.proofs.Finished.{finished-most}
use Rattle.layer_dots.specs.Orders.{top_shown, is_priority, layered_dot}
use Rattle.layer_dots.specs.Numbers.{layer2_allowed}
use Rattle.layer_dots.specs.Laid.{toggled, greater, untagged, over, three_over, level_over}

pub greater-left : (a b : ℕ) → b ≤ a → greater a b ≡ a
greater-left a b h = if-false (ltb a b) b a (le-ltb a b h)

pub greater-right : (a b : ℕ) → a < b → greater a b ≡ b
greater-right a b h = if-true (ltb a b) b a (lt-ltb a b h)

pub greater-most : (a b n : ℕ) → a < n → b < n → greater a b < n
greater-most a b n ha hb = either (λ (x : ℕ). x < n) (ltb a b) b a hb ha

-- ---- one dot over what shows below it

over_none : (below : ℕ) → below % 1024 < 512 → over 512 below ≡ below
unfolding over
over_none below h = ap untagged (go (ltb 0 below) refl) ∙ omega arith
  where
    go : (b : Bool) → ltb 0 below ≡ b → cond b below 0 ≡ below
    go true e = refl
    go false e = omega (arith, ltb-false 0 below e)

over-colour : (x below : ℕ) → x ≤ 511 → below ≤ 511 → over x below ≡ x
unfolding over
over-colour x below h g =
    let t : toggled x ≡ x + 512 = omega arith in
    ap untagged (greater-left (toggled x) below (omega arith)) ∙ omega arith

-- a dot over a priority dot
over-hidden : (x p : ℕ) → x ≤ 511 → 1024 ≤ p → p ≤ 1535 → over x p ≡ p
unfolding over
over-hidden x p h g m =
    let t : toggled x ≡ x + 512 = omega arith in
    ap untagged (greater-right (toggled x) p (omega arith)) ∙ omega arith

-- a priority dot over any other
over-priority : (p below : ℕ) → 1024 ≤ p → p ≤ 1535 → below ≤ 511 → over p below ≡ p
unfolding over
over-priority p below g m h =
    let t : toggled p ≡ p + 512 = omega arith in
    ap untagged (greater-left (toggled p) below (omega arith)) ∙ omega arith

-- a dot that is no priority dot, over a colour and over a priority dot
module _ (x : ℕ) (h : x ≤ 512) where
  over-top : (below : ℕ) → below ≤ 511 → over x below ≡ top_dot x below
  unfolding top_dot
  over-top below g = go (eqb x 512) refl
    where
      go : (b : Bool) → eqb x 512 ≡ b → over x below ≡ cond b below x
      go true e = ap (λ (n : ℕ). over n below) (eqb-true x 512 e) ∙ over_none below (omega arith)
      go false e = over-colour x below (omega (arith, eqb-false x 512 e)) g

  over-under : (p : ℕ) → 1024 ≤ p → p ≤ 1535 → over x p ≡ p
  over-under p g m = go (eqb x 512) refl
    where
      go : (b : Bool) → eqb x 512 ≡ b → over x p ≡ p
      go true e = ap (λ (n : ℕ). over n p) (eqb-true x 512 e) ∙ over_none p (omega arith)
      go false e = over-hidden x p (omega (arith, eqb-false x 512 e)) g m

-- ---- three dots, one of which may be a priority dot

-- a number of Layer 2 is a priority dot or none
pub by-priority : (P : Bool → Type 0) (l : ℕ) → layer2_allowed l ≡ true → (1024 ≤ l → l ≤ 1535 → P true) → (l ≤ 512 → P false) → P (is_priority l)
by-priority P l a prior plain = go (leb l 512) (leb 1024 l) refl refl a
  where
    go : (b c : Bool) → leb l 512 ≡ b → leb 1024 l ≡ c → (b || c && leb l 1535) ≡ true → P c
    go true true e f h = absurd (omega (arith, leb-true l 512 e, leb-true 1024 l f))
    go true false e f h = plain (leb-true l 512 e)
    go false true e f h = prior (leb-true 1024 l f) (leb-true l 1535 h)
    go false false e f h = absurd (not-both h refl)

module _ (fallback : ℕ) (hf : fallback ≤ 511) where
  abbrev top3 : ℕ → ℕ → ℕ → ℕ
  top3 x y z = top_dot x (top_dot y (top_dot z fallback))

  -- none of them is one
  three-plain : (x y z : ℕ) → x ≤ 512 → y ≤ 512 → z ≤ 512 → three_over x y z fallback ≡ top3 x y z
  unfolding three_over
  three-plain x y z hx hy hz =
      let ez = over-top z hz fallback hf in
      let mz = finished-most z fallback hz hf in
      let ey = ap (over y) ez ∙ over-top y hy (top_dot z fallback) mz in
      let my = finished-most y (top_dot z fallback) hy mz in
      let ex = ap (over x) ey ∙ over-top x hx (top_dot y (top_dot z fallback)) my in
      let mx = finished-most x (top_dot y (top_dot z fallback)) hx my in
      ap (λ (n : ℕ). n % 512) ex ∙ omega arith

  -- its colour is what is left of a priority dot
  colour-left : (p n : ℕ) → 1024 ≤ p → p ≤ 1535 → n ≡ p → n % 512 ≡ p - 1024
  colour-left p n g m e = omega arith

  module _ (l : ℕ) (a : layer2_allowed l ≡ true) where
    -- whichever of them is Layer 2's: what is left of it at the top where it has priority, and else the topmost
    lent-three : (x y z : ℕ) → (l ≤ 512 → (x ≤ 512) × (y ≤ 512) × (z ≤ 512)) → (1024 ≤ l → l ≤ 1535 → over x (over y (over z fallback)) ≡ l)
        → three_over x y z fallback ≡ cond (is_priority l) (l - 1024) (top3 x y z)
    unfolding three_over
    lent-three x y z plain prior =
        by-priority (λ b. three_over x y z fallback ≡ cond b (l - 1024) (top3 x y z)) l a (λ g m. colour-left l _ g m (prior g m))
        (λ h. let p = plain h in three-plain x y z p.0 p.1 p.2)

    first : (y z : ℕ) → y ≤ 512 → z ≤ 512 → three_over l y z fallback ≡ cond (is_priority l) (l - 1024) (top3 l y z)
    first y z hy hz =
        let mz = finished-most z fallback hz hf in
        let ey = ap (over y) (over-top z hz fallback hf) ∙ over-top y hy (top_dot z fallback) mz in
        lent-three l y z (λ h. (h, hy, hz)) (λ g m. ap (over l) ey ∙ over-priority l (top_dot y (top_dot z fallback)) g m (finished-most y (top_dot z fallback) hy mz))

    second : (x z : ℕ) → x ≤ 512 → z ≤ 512 → three_over x l z fallback ≡ cond (is_priority l) (l - 1024) (top3 x l z)
    second x z hx hz =
        lent-three x l z (λ h. (hx, h, hz)) (λ g m.
        let el = ap (over l) (over-top z hz fallback hf) ∙ over-priority l (top_dot z fallback) g m (finished-most z fallback hz hf) in
        ap (over x) el ∙ over-under x hx l g m)

    third : (x y : ℕ) → x ≤ 512 → y ≤ 512 → three_over x y l fallback ≡ cond (is_priority l) (l - 1024) (top3 x y l)
    third x y hx hy =
        lent-three x y l (λ h. (hx, hy, h)) (λ g m.
        let ey = ap (over y) (over-priority l fallback g m hf) ∙ over-under y hy l g m in
        ap (over x) ey ∙ over-under x hx l g m)

    -- ---- the six orders

    module _ (s u : ℕ) (hs : s ≤ 512) (hu : u ≤ 512) where
      -- bit 0 clear: the sprites are the upper lent line
      pub sprites-upper : (n : ℕ) → n ≤ 5 → n % 2 ≡ 0 → level_over (n / 2) fallback s l u ≡ layered_dot n fallback s l u
      unfolding level_over layered_dot top_shown
      sprites-upper zero h e = second s u hs hu
      sprites-upper (suc zero) h e = absurd (omega arith)
      sprites-upper (suc (suc zero)) h e = third s u hs hu
      sprites-upper (suc (suc (suc zero))) h e = absurd (omega arith)
      sprites-upper (suc (suc (suc (suc zero)))) h e = third u s hu hs
      sprites-upper (suc (suc (suc (suc (suc n))))) h e = absurd (omega arith)

      -- bit 0 set: Layer 2 is
      pub layer2-upper : (n : ℕ) → n ≤ 5 → (n % 2 ≡ 0 → ⊥) → level_over (n / 2) fallback l s u ≡ layered_dot n fallback s l u
      unfolding level_over layered_dot top_shown
      layer2-upper zero h e = absurd (e refl)
      layer2-upper (suc zero) h e = first s u hs hu
      layer2-upper (suc (suc zero)) h e = absurd (e refl)
      layer2-upper (suc (suc (suc zero))) h e = first u s hu hs
      layer2-upper (suc (suc (suc (suc zero)))) h e = absurd (e refl)
      layer2-upper (suc (suc (suc (suc (suc zero))))) h e = second u s hu hs
      layer2-upper (suc (suc (suc (suc (suc (suc n)))))) h e = absurd (omega arith)
