-- A line with its border.
use Prim.Native.Nat.{ℕ, ◌+◌, ◌-◌, ◌/◌, ◌≤◌, ◌<◌}
use mathlib.Core.Path.{◌≡◌, refl, sym, ap, ◌∙◌}
use mathlib.Core.List.{List, ◌++◌}
use mathlib.Core.Bool.{Bool, true, false, ◌&&◌}
use native.Mathlib.Omega.{arith}
use lib.ListN.{length, take}
use borrow.Author.Tests.{le-leb, lt-leb}
use Rattle.lists.specs.Tab.{tab}
use Rattle.lists.proofs.Tab.{tab-ext, tab-none, tab-part, tab-done}
use Rattle.lists.proofs.Cond.{if-true, if-false, right-false}
use Rattle.ula_view.specs.declared.views.UlaLine.{UlaLine}
use Rattle.ula_display.specs.Display.{display_dot}
use Rattle.ula.specs.Lines.{in_dots, row_dot}

module _ (u : UlaLine) (pal plus bank : List ℕ) where
  pub line-off : (old : List ℕ) (n : ℕ) → n ≡ 640 → u.on ≡ false → old ≡ tab (λ (k : ℕ). 512) n → old ≡ tab (row_dot u pal plus bank) 640
  unfolding row_dot
  line-off old n e o p = rw (p, e) (tab-ext _ _ 640 (λ k g. sym (if-false _ _ _ o)))

  pub line-border : (old : List ℕ) (n : ℕ) → n ≡ 640 → u.on ≡ true → u.display ≡ false → old ≡ tab (λ (k : ℕ). u.border) n → old ≡ tab (row_dot u pal plus bank) 640
  unfolding row_dot
  line-border old n e o d p =
      rw (p, e) (tab-ext _ _ 640 (λ k g. sym (if-true _ _ _ o ∙ if-false _ _ _ (ap (λ (b : Bool). b && in_dots k) d))))

  in-border : (k : ℕ) → u.on ≡ true → in_dots k ≡ false → u.border ≡ row_dot u pal plus bank k
  unfolding row_dot
  in-border k o t = sym (if-true _ _ _ o ∙ if-false _ _ _ (right-false u.display t))

  in-display : (k : ℕ) → k < 512 → u.on ≡ true → u.display ≡ true → display_dot u.view u.colours pal plus bank k ≡ row_dot u pal plus bank (64 + k)
  unfolding row_dot
  in-display k h o d =
      let e : k ≡ 64 + k - 64 = omega arith in
      let t : (u.display && in_dots (64 + k)) ≡ true = rw (d, le-leb 32 ((64 + k) / 2) (omega arith), le-leb ((64 + k) / 2) 287 (omega arith)) in
      ap (display_dot u.view u.colours pal plus bank) e ∙ sym (if-true _ _ _ o ∙ if-true _ _ _ t)

  -- the two sides of the border and the display between them, one after the other
  pub line-framed : (old o₁ o₂ o₃ p d q r₁ r₂ r₃ : List ℕ) (n m : ℕ) → u.on ≡ true → u.display ≡ true
      → o₁ ≡ take 0 old ++ (p ++ r₁) → o₂ ≡ take 64 o₁ ++ (d ++ r₂) → o₃ ≡ take 576 o₂ ++ (q ++ r₃)
      → 64 ≤ length o₁ → 576 ≤ length o₂ → length o₃ ≡ 640 → n ≡ 64 → m ≡ 64
      → p ≡ tab (λ (k : ℕ). u.border) n → d ≡ tab (display_dot u.view u.colours pal plus bank) 512 → q ≡ tab (λ (k : ℕ). u.border) m
      → o₃ ≡ tab (row_dot u pal plus bank) 640
  line-framed old o₁ o₂ o₃ p d q r₁ r₂ r₃ n m o s e₁ e₂ e₃ l₁ l₂ l₃ en em ep ed eq =
      let f : ℕ → ℕ = row_dot u pal plus bank in
      let left : p ≡ tab (λ (k : ℕ). f (0 + k)) 64 =
      ep ∙ ap (tab (λ (k : ℕ). u.border)) en ∙ tab-ext _ _ 64 (λ k h. in-border (0 + k) o (rw (lt-leb 32 ((0 + k) / 2) (omega arith)))) in
      let middle : d ≡ tab (λ (k : ℕ). f (64 + k)) 512 = ed ∙ tab-ext _ _ 512 (λ k h. in-display k h o s) in
      let right : q ≡ tab (λ (k : ℕ). f (576 + k)) 64 =
      eq ∙ ap (tab (λ (k : ℕ). u.border)) em
      ∙ tab-ext _ _ 64 (λ k h. in-border (576 + k) o (rw (le-leb 32 ((576 + k) / 2) (omega arith), lt-leb ((576 + k) / 2) 287 (omega arith)))) in
      let t₁ : take 64 o₁ ≡ tab f 64 = rw e₁ (tab-part f old p r₁ 0 64 64 (omega arith) (tab-none f) left refl) in
      let t₂ : take 576 o₂ ≡ tab f 576 = rw e₂ (tab-part f o₁ d r₂ 64 512 576 l₁ t₁ middle refl) in
      let t₃ : take 640 o₃ ≡ tab f 640 = rw e₃ (tab-part f o₂ q r₃ 576 64 640 l₂ t₂ right refl) in
      tab-done f o₃ 640 l₃ t₃
