-- A row whose two ends are painted over is the row within its clip.
use Prim.Native.Nat.{ℕ, ◌+◌, ◌-◌, ◌*◌, ◌/◌, ◌≤◌, ◌<◌}
use mathlib.Core.Path.{◌≡◌, refl, sym, ap, ◌∙◌}
use mathlib.Core.List.{List, ◌++◌}
use mathlib.Core.Bool.{Bool, true, false, cond, ◌&&◌}
use native.Mathlib.Omega.{arith}
use lib.ListN.{length, get_or, take, drop}
use lib.Dec.{leb}
use borrow.Author.Tests.{le-leb, lt-leb, leb-false}
use Rattle.lists.specs.Tab.{tab}
use Rattle.lists.proofs.Tab.{tab-patch, tab-entries, get_or-tab, length-tab}
use Rattle.lists.proofs.Cond.{if-true, if-false}
use Rattle.surface.specs.Dots.{clipped}
use Rattle.surface_rows.specs.Rows.{place_in, first_dot, past_dot}

module _ (n d : ℕ) where
  -- what lies below a place lies below its dot, and what lies from it on in the row lies from that dot on
  below-place : (k : ℕ) → k < place_in n d → k < d
  below-place k = go (leb d n) refl
    where
      go : (b : Bool) → leb d n ≡ b → k < cond b d n → k < d
      go true e h = h
      go false e h = omega (arith, leb-false d n e)

  from_place : (k : ℕ) → place_in n d ≤ k → k < n → d ≤ k
  from_place k = go (leb d n)
    where
      go : (b : Bool) → cond b d n ≤ k → k < n → d ≤ k
      go true h g = h
      go false h g = absurd (omega arith)

-- 512 is painted over n entries from a on
painted : (xs : List ℕ) (h : ℕ → ℕ) (a n b m : ℕ) → length xs ≡ m → a + n + b ≡ m
    → ((k : ℕ) → k < a → get_or xs k 0 ≡ h k) → ((k : ℕ) → k < n → 512 ≡ h (a + k)) → ((k : ℕ) → k < b → get_or xs (a + n + k) 0 ≡ h (a + n + k))
    → take a xs ++ (tab (λ (k : ℕ). 512) n ++ drop n (drop a xs)) ≡ tab h m
painted xs h a n b m e s p q r =
    let f : ℕ → ℕ = λ (k : ℕ). get_or xs k 0 in
    ap (λ (l : List ℕ). take a l ++ (tab (λ (k : ℕ). 512) n ++ drop n (drop a l))) (tab-entries xs ∙ ap (tab f) (e ∙ sym s))
    ∙ tab-patch f (λ (k : ℕ). 512) h a n b p q r ∙ ap (tab h) s

-- a test that holds beside another, and one that does not
stays : (a b : Bool) (x : ℕ) → b ≡ true → cond a x 512 ≡ cond (a && b) x 512
stays true b x e = sym (if-true b x 512 e)
stays false b x e = refl

goes : (a b : Bool) (x : ℕ) → b ≡ false → 512 ≡ cond (a && b) x 512
goes true b x e = sym (if-false b x 512 e)
goes false b x e = refl

module _ (xs : List ℕ) (left right : ℕ) where
  abbrev opened : ℕ → ℕ
  opened d = cond (leb left (d / 2)) (get_or xs d 0) 512

  -- the left end painted over: the dots whose pixel is left of the clip
  clip-left : (n : ℕ) → n ≡ first_dot (length xs) left → n ≤ length xs
      → take 0 xs ++ (tab (λ (k : ℕ). 512) n ++ drop n (drop 0 xs)) ≡ tab opened (length xs)
  clip-left n e h =
      let outside : (d : ℕ) → d < n → d < left * 2 = λ d g. below-place (length xs) (left * 2) d (rw e at g) in
      let within : (d : ℕ) → n ≤ d → d < length xs → left * 2 ≤ d = λ d g. from_place (length xs) (left * 2) d (rw e at g) in
      painted xs opened 0 n (length xs - n) (length xs) refl (omega arith)
      (λ k g. absurd (omega arith))
      (λ k g. sym (if-false (leb left ((0 + k) / 2)) (get_or xs (0 + k) 0) 512 (lt-leb left ((0 + k) / 2) (omega (arith, outside (0 + k) (omega arith))))))
      (λ k g. sym (if-true (leb left ((0 + n + k) / 2)) (get_or xs (0 + n + k) 0) 512 (le-leb left ((0 + n + k) / 2) (omega (arith, within (0 + n + k) (omega arith) (omega arith))))))

  -- then the right end, from a on
  clip-right : (ys : List ℕ) (a n : ℕ) → a ≡ past_dot (length xs) right → a + n ≡ length xs
      → ys ≡ tab opened (length xs)
      → take a ys ++ (tab (λ (k : ℕ). 512) n ++ drop n (drop a ys)) ≡ tab (λ (d : ℕ). clipped (d / 2) left right (get_or xs d 0)) (length xs)
  unfolding clipped
  clip-right ys a n e m y =
      let within : (d : ℕ) → d < a → d < right * 2 + 2 = λ d g. below-place (length xs) (right * 2 + 2) d (rw e at g) in
      let outside : (d : ℕ) → a ≤ d → d < length xs → right * 2 + 2 ≤ d = λ d g. from_place (length xs) (right * 2 + 2) d (rw e at g) in
      painted ys (λ (d : ℕ). clipped (d / 2) left right (get_or xs d 0)) a n 0 (length xs) (ap length y ∙ length-tab opened (length xs)) (omega arith)
      (λ k g.
      ap (λ (l : List ℕ). get_or l k 0) y ∙ get_or-tab opened (length xs) k (omega arith)
      ∙ stays (leb left (k / 2)) (leb (k / 2) right) (get_or xs k 0) (le-leb (k / 2) right (omega (arith, within k g))))
      (λ k g.
      goes (leb left ((a + k) / 2)) (leb ((a + k) / 2) right) (get_or xs (a + k) 0)
      (lt-leb ((a + k) / 2) right (omega (arith, outside (a + k) (omega arith) (omega arith)))))
      (λ k g. absurd (omega arith))

  -- both ends, as the two lent parts come back
  pub clip-ends : (p q : List ℕ) (n m k a j : ℕ) → k ≡ first_dot (length xs) left → k ≤ length xs → a ≡ past_dot (length xs) right → a + j ≡ length xs
      → p ≡ tab (λ (i : ℕ). 512) n → n ≡ k → q ≡ tab (λ (i : ℕ). 512) m → m ≡ j
      → take a (p ++ drop k (drop 0 xs)) ++ (q ++ drop j (drop a (p ++ drop k (drop 0 xs))))
      ≡ tab (λ (d : ℕ). clipped (d / 2) left right (get_or xs d 0)) (length xs)
  clip-ends p q n m k a j ek hk ea ha ep en eq em =
      let ys : List ℕ = p ++ drop k (drop 0 xs) in
      let y : ys ≡ tab opened (length xs) = ap (λ (l : List ℕ). l ++ drop k (drop 0 xs)) (ep ∙ ap (tab (λ (i : ℕ). 512)) en) ∙ clip-left k ek hk in
      ap (λ (l : List ℕ). take a ys ++ (l ++ drop j (drop a ys))) (eq ∙ ap (tab (λ (i : ℕ). 512)) em) ∙ clip-right ys a j ea ha y
